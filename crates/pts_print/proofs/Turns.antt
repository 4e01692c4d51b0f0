-- Loops that write the elements of a list one after the other.
use Rattle.std.proofs.Common.{◌≡◌, ℕ, ◌+◌, ◌<◌, ◌≤◌, List, ◌∷◌, ◌++◌, length, get_or, drop, refl, sym, ap, ◌∙◌}
use Rattle.std.proofs.lemmas.List.{drop_more, drop_all}
use Rattle.pts_tree.specs.Signs.{Sign}
use Rattle.pts_tree.specs.Spelling.{Text, each}
use Rattle.pts_print.specs.Printing.{ended, Puts}

-- the new bytes are the old ones and then the signs of the elements from one place on and before another
pub record Written {A : Type 0} (spell : A → Text) (xs : List A) (from at : ℕ) (before after : List ℕ) : Type 0 where
  pub written : (tail : List Sign) → after ++ ended (each spell (drop at xs) tail) ≡ before ++ ended (each spell (drop from xs) tail)

pub written_none : {A : Type 0} (spell : A → Text) (xs : List A) (from : ℕ) (bytes : List ℕ) → Written spell xs from from bytes bytes
written_none spell xs from bytes = record { written = λ tail. refl }

pub written_one : {A : Type 0} (spell : A → Text) (xs : List A) (from at : ℕ) (before now after : List ℕ) (x : A)
    → Written spell xs from at before now → at < length xs → x ≡ get_or xs at x → Puts (spell x) now after → Written spell xs from (at + 1) before after
written_one {A} spell xs from at before now after x w within is p =
    let split : drop at xs ≡ x ∷ drop (at + 1) xs = drop_more xs at x within ∙ ap (λ y. y ∷ drop (at + 1) xs) (sym is) in
    record {
      written = λ tail.
          p.puts (each spell (drop (at + 1) xs) tail)
          ∙ ap (λ zs. now ++ ended (each spell zs tail)) (sym split)
          ∙ w.written tail;
    }

pub written_all : {A : Type 0} (spell : A → Text) (xs : List A) (from at : ℕ) (before after : List ℕ)
    → Written spell xs from at before after → length xs ≤ at → Puts (each spell (drop from xs)) before after
written_all {A} spell xs from at before after w all =
    record { puts = λ tail. ap (λ zs. after ++ ended (each spell zs tail)) (sym (drop_all at xs all)) ∙ w.written tail }

pub ruleset turns = (written_none, written_one, written_all)
