-- Nothing of a sound item is cut: what is kept is what the item has.
use Rattle.std.proofs.Common.{◌≡◌, ℕ, ◌+◌, ◌-◌, ◌^◌, ◌<◌, ◌≤◌, List, [], ◌∷◌, ◌++◌, map, length, refl, ap, subst, ◌∙◌, arith}
use Rattle.std.specs.Prelude.{All}
use Rattle.std.proofs.lemmas.List.Elements.{All-head, All-tail}
use Rattle.pts_tree.specs.declared.script.Item.{Item}
use Rattle.pts_rules.specs.Parts.{Simple, Throw, Assign, Call, Loop, statements}
use Rattle.pts_rules.specs.Known.{Scope}
use Rattle.pts_rules.specs.Counts.{loop_positions}
use Rattle.pts_points.specs.declared.builder.Builder.{Builder}
use Rattle.pts_points.specs.declared.point.Branch.{Branch}
use Rattle.pts_points.specs.Lines.{line_of_range}
use Rattle.pts_points.specs.Pieces.{Point}
use Rattle.pts_points.specs.Points.{statement_piece, form_of, points_from, item_points, call_at, calls_from, info, points_of, calls_of}
use Rattle.pts_points.specs.Inside.{HasRoom, IsSound}
use Rattle.pts_points.specs.Standings.{Ascends}
use Rattle.pts_points.specs.Building.{AreAddable, kept_branch, kept_call, kept_info, no_points, with_statements, points_among}
use Rattle.pts_points.proofs.Each.{Each}
use Rattle.pts_points.proofs.Standing.{Numbered, IsRight}
use Rattle.pts_points.proofs.PointLists.{numbered_from, right_from, length_is}
use Rattle.pts_points.proofs.Interiors.{HoldsPoint}
use Rattle.pts_points.proofs.Ranges.{small_same}
use Rattle.pts_points.proofs.Builds.{map_both}
use Rattle.pts_points.proofs.StatementTurns.{points_count}
use Rattle.pts_points.proofs.SoundItems.{all_held, call_short, loop_short, sound_kept}

fits_word : (n : ℕ) → n < 2 ^ 32 → n ≤ 2 ^ 32 - 1
fits_word n h = omega (arith, h)

short_fits : (n : ℕ) → n ≤ 2 ^ 20 → n ≤ 2 ^ 32 - 1
short_fits n h = omega (arith, h)

ascends_from : (low n : ℕ) (bs : List Branch) → Ascends low bs n → low ≤ n
ascends_from low n [] h = h
ascends_from low n (b ∷ bs) h = let k = ascends_from (b.test + 1) n bs h.1 in let l : low ≤ b.test = h.0 in omega (arith, k, l)

branches_kept : (low n : ℕ) (bs : List Branch) → n < 2 ^ 32 → Ascends low bs n → map kept_branch bs ≡ bs
branches_kept low n [] few h = refl
branches_kept low n (b ∷ bs) few h =
    let k = ascends_from (b.test + 1) n bs h.1 in
    λ i. record { test = small_same b.test (omega (arith, k, few)) i; taken = b.taken } ∷ branches_kept (b.test + 1) n bs few h.1 i

point_kept : (scope : Scope) (item : ℕ) (p : Point) → HoldsPoint scope p → p.number < 2 ^ 32 → IsRight p → kept_info item p ≡ info item p
point_kept scope item p held few right =
    λ i. record {
      item = item;
      number = small_same p.number (fits_word p.number few) i;
      call = p.context.call;
      form = form_of p.deed;
      array = small_same _ held.few i;
      line = held.kept i;
      branches = branches_kept 0 p.number p.context.branches few right.stands.tests i;
      off = p.context.off;
    }

points_kept : (scope : Scope) (item n e : ℕ) (ps : List Point) → Numbered n ps e → e < 2 ^ 32 → Each (HoldsPoint scope) ps → Each IsRight ps → map (kept_info item) ps ≡ map (info item) ps
points_kept scope item n e [] h few held right = refl
points_kept scope item n e (p ∷ ps) h few held right =
    let count = length_is (n + 1) e ps h.1 in
    let first : p.number ≡ n = h.0 in
    λ i. point_kept scope item p held.0 (omega (arith, count, first, few)) right.0 i ∷ points_kept scope item (n + 1) e ps h.1 few held.1 right.1 i

module _ (scope : Scope) (room : HasRoom scope) (item : ℕ) where
  call_kept : (n : ℕ) (x : Simple) → IsSound scope x → n + (statement_piece scope x).size < 2 ^ 32 → map kept_call (call_at scope item n x) ≡ call_at scope item n x
  call_kept n (Throw code) sound few = refl
  call_kept n (Assign at x) sound few = refl
  call_kept n (Call x) sound few =
      let size = (statement_piece scope (Call x)).size in
      λ i. record {
        item = item;
        policy = x.policy;
        positions = small_same (line_of_range scope x.first).n (short_fits (line_of_range scope x.first).n (call_short scope room x sound)) i;
        first_point = small_same n (omega (arith, few)) i;
        points = small_same size (omega (arith, few)) i;
      } ∷ []
  call_kept n (Loop x) sound few =
      let size = (statement_piece scope (Loop x)).size in
      λ i. record {
        item = item;
        policy = x.policy;
        positions = small_same (loop_positions scope x) (short_fits (loop_positions scope x) (loop_short scope room x sound)) i;
        first_point = small_same n (omega (arith, few)) i;
        points = small_same size (omega (arith, few)) i;
      } ∷ []

  calls_kept : (n : ℕ) (xs : List Simple) → All (IsSound scope) xs → n + points_among scope xs < 2 ^ 32 → map kept_call (calls_from scope item n xs) ≡ calls_from scope item n xs
  calls_kept n [] all few = refl
  calls_kept n (x ∷ xs) all few =
      let size = (statement_piece scope x).size in
      map_both kept_call (call_at scope item n x) (calls_from scope item (n + size) xs)
      ∙ (λ i. call_kept n x (All-head (IsSound scope) x xs all) (omega (arith, few)) i ++ calls_kept (n + size) xs (All-tail (IsSound scope) x xs all) (omega (arith, few)) i)

module _ (scope : Scope) (room : HasRoom scope) (item earlier : ℕ) (x : Item) (all : All (IsSound scope) (statements x)) (few : length (item_points scope earlier x) < 2 ^ 32) where
  total_few : points_among scope (statements x) < 2 ^ 32
  total_few = subst (λ n. n < 2 ^ 32) (points_count scope 0 0 earlier (statements x)) few

  pub first_room : AreAddable scope (no_points item earlier) (statements x)
  first_room =
      record {
        idle = record { call = refl; branches = refl; off = refl; space = refl };
        kept = sound_kept scope room (statements x) all;
      }

  pub exact_points : (b : Builder) → b ≡ with_statements scope (no_points item earlier) (statements x) → b.points ≡ points_of scope item earlier x
  exact_points b h =
      let none : earlier + 0 ≡ earlier = omega arith in
      let total = points_among scope (statements x) in
      ap (λ z. z.points) h
      ∙ (λ i. map (kept_info item) (points_from scope 0 0 (none i) (statements x)))
      ∙ points_kept scope item 0 (0 + total) (item_points scope earlier x) (numbered_from scope 0 0 earlier (statements x)) (let f = total_few in omega (arith, f))
      (all_held scope room 0 0 earlier (statements x) all) (right_from scope 0 0 earlier (statements x))

  pub exact_calls : (b : Builder) → b ≡ with_statements scope (no_points item earlier) (statements x) → b.calls ≡ calls_of scope item earlier x
  exact_calls b h = ap (λ z. z.calls) h ∙ calls_kept scope room item 0 (statements x) all (let f = total_few in omega (arith, f))
