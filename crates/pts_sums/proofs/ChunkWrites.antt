-- Chunks of places that are written, one after another.
use Rattle.std.proofs.Common.{◌≡◌, ℕ, ◌+◌, ◌*◌, ◌<◌, ◌≤◌, min, Bool, true, false, Option, List, length, map, drop, sym, ap, subst, arith}
use Rattle.std.specs.List.{range_with_len}
use Rattle.std.proofs.Math.Nat.{mul-le-mul_right}
use Rattle.std.proofs.lemmas.Grind.{div_ceil_times}
use Rattle.std.proofs.lemmas.List.FromFn.{length-map-range_with_len}
use Rattle.pts_types.specs.declared.operation.Policy.TheVariants.{Par}
use Rattle.pts_types.specs.declared.value.Value.{Value}
use Rattle.pts_store.specs.Writes.{Writes}
use Rattle.pts_groupings.specs.Chunks.{chunk, chunk_count}
use Rattle.pts_groupings.specs.Scans.{Scan, place}
use Rattle.pts_groupings.specs.Sums.{all_given}
use Rattle.pts_groupings.proofs.Chunks.{chunk_starts}
use Rattle.pts_sums.specs.Places.{places_after, start_of, Puts}
use Rattle.pts_sums.proofs.ChunkPlaces.{own_places}
use Rattle.pts_sums.proofs.PutPlaces.{put_all, put_at_first, put_chunk, throw_chunk}

module _ (op : Value → Value → Option Value) (scan : Scan) (size : ℕ) (init : Option Value) (items : List (Option Value)) (array first : ℕ) where
  -- the places of all items
  abbrev pub places : List (Option Value)
  places = map (place Par scan size op init items) (range_with_len 0 (length items))

  counted : length places ≡ length items
  counted = length-map-range_with_len (place Par scan size op init items) 0 (length items)

  module _ (some : 0 < size) (c chunks : ℕ) (count : chunks ≡ chunk_count (length items) size) where
    module _ (start : Option (Option Value)) (l : c < chunks) (is : start ≡ start_of op size init items c) where
      within : c * size < length places
      within = (let e = counted in let b = chunk_starts (length items) size c some (omega (arith, l, count)) in omega (arith, e, b))

      own : (all : Bool) (old mid : Writes) → Puts all (all_given (places_after scan op start (chunk size items c))) array (first + min (c * size) (length items)) old mid
          → Puts all (all_given (chunk size places c)) array (first + min (c * size) (length places)) old mid
      own all old mid h =
          subst (λ n. Puts all (all_given (chunk size places c)) array (first + min (c * size) n) old mid) (sym counted)
          (subst (λ values. Puts all values array (first + min (c * size) (length items)) old mid) (own_places op scan size init items start c is) h)

      pub write_more : (own_all all : Bool) (old mid new : Writes) → own_all ≡ true
          → Puts own_all (all_given (places_after scan op start (chunk size items c))) array (first + min (c * size) (length items)) old mid
          → Puts all (all_given (drop ((c + 1) * size) places)) array (first + (c + 1) * size) mid new
          → Puts all (all_given (drop (c * size) places)) array (first + c * size) old new
      write_more own_all all old mid new e h more =
          put_chunk places size c array first within all old mid new (subst (λ b. Puts b (all_given (chunk size places c)) array (first + min (c * size) (length places)) old mid) e (own own_all old mid h)) more

      pub write_throw : (own_all : Bool) (old mid new : Writes) → own_all ≡ false
          → Puts own_all (all_given (places_after scan op start (chunk size items c))) array (first + min (c * size) (length items)) old mid
          → Puts false (all_given (drop (c * size) places)) array (first + c * size) old new
      write_throw own_all old mid new e h =
          throw_chunk places size c array first within old mid new (subst (λ b. Puts b (all_given (chunk size places c)) array (first + min (c * size) (length places)) old mid) e (own own_all old mid h))

    pub all_written : (writes : Writes) → chunks ≤ c → Puts true (all_given (drop (c * size) places)) array (first + c * size) writes writes
    all_written writes l =
        let e = counted in
        let b = div_ceil_times (length items) size some in
        let more : chunks * size ≤ c * size = mul-le-mul_right size l in
        let same : chunks * size ≡ chunk_count (length items) size * size = ap (λ n. n * size) count in
        put_all places (c * size) array (first + c * size) writes (let h = b.0 in omega (arith, e, h, more, same))

  pub write_begun : (all : Bool) (old new : Writes) → Puts all (all_given (drop (0 * size) places)) array (first + 0 * size) old new → Puts all (all_given places) array first old new
  write_begun all old new h = put_at_first all places array first (0 * size) old new (let e : 0 * size ≡ 0 = omega arith in e) h
