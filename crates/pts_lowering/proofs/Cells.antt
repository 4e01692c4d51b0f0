-- The numbers of ranges and cells of a sound statement.
use Rattle.std.proofs.Common.{◌≡◌, ◌^◌, true, false, Bool, ◌&&◌, ◌||◌, ℤ, pos, Option, Some, None, List, ◌++◌, arith}
use Rattle.std.specs.Prelude.{◌≤ℤ◌, IfSome, IsTrue, is_some}
use Rattle.std.proofs.lemmas.Bool.{and_parts, or_parts}
use Rattle.std.proofs.lemmas.Int.{ints}
use Rattle.pts_tree.specs.Spelling.{if_there}
use Rattle.pts_tree.specs.declared.sum.Range.{Range}
use Rattle.pts_tree.specs.declared.sum.Cell.{Cell}
use Rattle.pts_tree.specs.declared.call.Call as call
use Rattle.pts_rules.specs.Parts.{Call}
use Rattle.pts_rules.specs.Known.{Scope, has, is_place, kind_of_array, number, sum_is, sum_value}
use Rattle.pts_rules.specs.Indices.{Reach, Along, cell_reach, leaves, length_of, range_reach, reach_of, reaches}
use Rattle.pts_rules.specs.Mistyped.{form_right, range_right}
use Rattle.pts_rules.specs.Steps.{is_backward}
use Rattle.pts_points.specs.Inside.{HasRoom, IsSound}
use Rattle.pts_points.proofs.Each.{Each, front, back}
use Rattle.pts_points.proofs.Interiors.{Stays, each_stays}
use Rattle.pts_points.proofs.Ranges.{is_short}
use Rattle.pts_points.proofs.SoundItems.{known_number, place_bounds, not_less, span_end}
use Rattle.pts_lowering.specs.Fitting.{HasCells, IsIndex, IsRange, IsWord}

word_below : (z size : ℤ) → pos 0 ≤ℤ z → z ≤ℤ size → size ≤ℤ pos (2 ^ 20) → IsWord z
word_below z size low high short = record { low = low; high = grind (arith, high, short) }

module _ (scope : Scope) (room : HasRoom scope) where
  -- a range within its array
  range_words : (x : Range) → range_right scope x ≡ true → is_backward scope x ≡ false → Each Stays (range_reach scope x) → IsRange scope x
  range_words x right forward stays =
      let low : ℤ = number scope x.low in
      let high : ℤ = number scope x.high in
      let size : ℤ = length_of scope x.array in
      let p1 = and_parts (is_some (kind_of_array scope x.array) && sum_is scope is_place x.low) (sum_is scope is_place x.high) right in
      let p2 = and_parts (is_some (kind_of_array scope x.array)) (sum_is scope is_place x.low) p1.0 in
      let l = place_bounds low (known_number (sum_value scope x.low) is_place p2.1) in
      let h = place_bounds high (known_number (sum_value scope x.high) is_place p1.1) in
      let l0 : pos 0 ≤ℤ low = l.0 in
      let ordered : low ≤ℤ high = not_less high low forward in
      let fits : high ≤ℤ size = span_end low high size stays.0 in
      let short : size ≤ℤ pos (2 ^ 20) = is_short scope room x.array in
      record { low = word_below low size l0 (grind (arith, ordered, fits)) short; high = word_below high size h.0 fits short }

  -- a cell within its array
  pub cell_word : (x : Cell) → Each Stays (cell_reach scope x) → IsIndex scope x
  cell_word x stays =
      let z : ℤ = number scope x.index in
      let size : ℤ = length_of scope x.array in
      let short : size ≤ℤ pos (2 ^ 20) = is_short scope room x.array in
      let here : leaves 0 (Along (record { c = pos 0; d = z; n = 1 }) size) ≡ false = stays.0 0 in
      let low : pos 0 ≤ℤ z = grind (arith, ints, here) in
      let high : z ≤ℤ size = grind (arith, ints, here) in
      word_below z size low high short

  optional_words : (x : Option Range) → if_there (range_right scope) x ≡ true → has (is_backward scope) x ≡ false → Each Stays (reach_of (range_reach scope) x) → IfSome x (IsRange scope)
  optional_words None right forward stays = tt
  optional_words (Some x) right forward stays = range_words x right forward stays

  store_word : (x : Option Cell) → Each Stays (reach_of (cell_reach scope) x) → IfSome x (IsIndex scope)
  store_word None stays = tt
  store_word (Some x) stays = cell_word x stays

  -- the cells of a sound call
  pub call_cells : (x : call.Call) → IsSound scope (Call x) → HasCells scope x
  call_cells x sound =
      let first : List Reach = range_reach scope x.first in
      let second : List Reach = reach_of (range_reach scope) x.second in
      let target : List Reach = reach_of (range_reach scope) x.target in
      let store : List Reach = reach_of (cell_reach scope) x.store in
      let stays : Each Stays (first ++ second ++ target ++ store) = each_stays (reaches scope (Call x)) sound.stays in
      let s1 : Each Stays (first ++ second ++ target) = front Stays (first ++ second ++ target) store stays in
      let s2 : Each Stays (first ++ second) = front Stays (first ++ second) target s1 in
      let a : Bool = range_right scope x.first in
      let b : Bool = if_there (range_right scope) x.second in
      let c : Bool = if_there (range_right scope) x.target in
      let r1 = and_parts (a && b && c) (form_right x.form scope x) sound.right in
      let r2 = and_parts (a && b) c r1.0 in
      let r3 = and_parts a b r2.0 in
      let d : Bool = is_backward scope x.first in
      let e : Bool = has (is_backward scope) x.second in
      let f : Bool = has (is_backward scope) x.target in
      let f1 = or_parts (d || e) f sound.forward in
      let f2 = or_parts d e f1.0 in
      record {
        first = range_words x.first r3.0 f2.0 (front Stays first second s2);
        second = optional_words x.second r3.1 f2.1 (back Stays first second s2);
        target = optional_words x.target r2.1 f1.1 (back Stays (first ++ second) target s1);
        store = store_word x.store (back Stays (first ++ second ++ target) store stays);
      }

  -- and its form is right
  pub call_form : (x : call.Call) → IsSound scope (Call x) → IsTrue (form_right x.form scope x)
  call_form x sound =
      (and_parts (range_right scope x.first && if_there (range_right scope) x.second && if_there (range_right scope) x.target) (form_right x.form scope x) sound.right).1
