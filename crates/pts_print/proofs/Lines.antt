-- Lines: signs with a space behind each, and then a line feed in place of the last space.
use Rattle.std.proofs.Common.{◌≡◌, ℕ, ◌+◌, ◌-◌, ◌<◌, ◌≤◌, true, List, [], ◌∷◌, ◌++◌, length, get_or, drop, refl, sym, ap, ◌∙◌, append_assoc, length-append, arith}
use Rattle.std.specs.Prelude.{set, flat_map}
use Rattle.std.proofs.Math.Seq.{set-append_seam}
use Rattle.std.proofs.lemmas.Bool.{false≢true}
use Rattle.std.proofs.lemmas.List.{append-nil, drop_more, drop_all}
use Rattle.pts_tree.specs.declared.script.Item.{Item}
use Rattle.pts_tree.specs.declared.script.Item.TheVariants as items
use Rattle.pts_tree.specs.Signs.{Sign}
use Rattle.pts_tree.specs.Spelling.{Text, is_filled}
use Rattle.pts_tree.specs.Scripts.{item}
use Rattle.pts_print.specs.Canonical.{sign_bytes, space, line_feed, spaced, item_line}
use Rattle.pts_print.specs.Printing.{ended, Puts}
use Rattle.pts_tree.proofs.Tasks.{block_text}

-- signs with a space behind each are the signs with a space between any two, and one space more
pub ended_spaced : (ts : List Sign) → is_filled ts ≡ true → ended ts ≡ spaced ts ++ space ∷ []
ended_spaced [] some = absurd (false≢true some)
ended_spaced (t ∷ []) some = refl
ended_spaced (t ∷ u ∷ ts) some =
    ap (λ us. sign_bytes t ++ space ∷ us) (ended_spaced (u ∷ ts) refl)
    ∙ sym (append_assoc (sign_bytes t) (space ∷ spaced (u ∷ ts)) (space ∷ []))

-- what a part puts ends with one space
pub ends_with_space : {f : Text} {a b : List ℕ} → Puts f a b → is_filled (f []) ≡ true → b ≡ a ++ spaced (f []) ++ space ∷ []
ends_with_space {f} {a} {b} p some =
    sym (append-nil b) ∙ p.puts [] ∙ ap (λ us. a ++ us) (ended_spaced (f []) some) ∙ sym (append_assoc a (spaced (f [])) (space ∷ []))

pub is_longer : (front bytes : List ℕ) → bytes ≡ front ++ space ∷ [] → 0 < length bytes
is_longer front bytes e = let l : length bytes ≡ length front + 1 = ap length e ∙ length-append front (space ∷ []) in omega (arith, l)

pub last_set : (front bytes : List ℕ) (last : ℕ) → bytes ≡ front ++ space ∷ [] → last ≡ length bytes - 1 → set bytes last line_feed ≡ front ++ line_feed ∷ []
last_set front bytes last e at =
    let l : length bytes ≡ length front + 1 = ap length e ∙ length-append front (space ∷ []) in
    let is : last ≡ length front = omega (arith, l, at) in
    ap (λ n. set bytes n line_feed) is ∙ ap (λ bs. set bs (length front) line_feed) e ∙ set-append_seam front space [] line_feed

-- an item has a first sign
pub item_filled : (x : Item) → is_filled (item x []) ≡ true
item_filled (items.Const x) = refl
item_filled (items.Array x) = refl
item_filled (items.Function x) = refl
item_filled (items.Call x) = refl
item_filled (items.Loop x) = refl
item_filled (items.Block x) = ap (λ f. is_filled (f [])) (block_text x)
item_filled (items.Print text) = refl

-- the new bytes are the old ones and then the lines of the items before this place
pub record Lined (xs : List Item) (at : ℕ) (before after : List ℕ) : Type 0 where
  pub lined : after ++ flat_map item_line (drop at xs) ≡ before ++ flat_map item_line xs

pub lined_none : (xs : List Item) (bytes : List ℕ) → Lined xs 0 bytes bytes
lined_none xs bytes = record { lined = refl }

pub lined_one : (xs : List Item) (at : ℕ) (before now after : List ℕ) (x : Item)
    → Lined xs at before now → at < length xs → x ≡ get_or xs at x → after ≡ now ++ item_line x → Lined xs (at + 1) before after
lined_one xs at before now after x w within is e =
    let split : drop at xs ≡ x ∷ drop (at + 1) xs = drop_more xs at x within ∙ ap (λ y. y ∷ drop (at + 1) xs) (sym is) in
    record {
      lined =
          ap (λ bs. bs ++ flat_map item_line (drop (at + 1) xs)) e
          ∙ append_assoc now (item_line x) (flat_map item_line (drop (at + 1) xs))
          ∙ ap (λ zs. now ++ flat_map item_line zs) (sym split)
          ∙ w.lined;
    }

pub lined_all : (xs : List Item) (at : ℕ) (before after : List ℕ) → Lined xs at before after → length xs ≤ at → after ≡ before ++ flat_map item_line xs
lined_all xs at before after w all = sym (append-nil after) ∙ ap (λ zs. after ++ flat_map item_line zs) (sym (drop_all at xs all)) ∙ w.lined

pub ruleset lines = (lined_none, lined_one, lined_all)
