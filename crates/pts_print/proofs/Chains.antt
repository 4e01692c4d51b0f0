-- Writing one part behind the other.
use Rattle.std.proofs.Common.{◌≡◌, ℕ, List, Option, ◌∙◌, OnOk, subst}
use Rattle.std.specs.Prelude.{Result, Ok, Err}
use Rattle.pts_tree.specs.declared.mark.Mark.{Mark}
use Rattle.pts_tree.specs.Spelling.{Text, word, optional}
use Rattle.pts_print.specs.Printing.{Puts}

infixr 60 ◌▸◌
-- one part and then another
pub ◌▸◌ : {f g : Text} {a b c : List ℕ} → Puts f a b → Puts g b c → Puts (λ tail. f (g tail)) a c
◌▸◌ {f} {g} p q = record { puts = λ tail. q.puts tail ∙ p.puts (g tail) }

-- one part and then another that memory may lack for
pub last : {E : Type 0} (r : Result (Unit {0}) E) {f : Text} (g : Text) {a b : List ℕ} (c : List ℕ) → Puts f a b → OnOk r (Puts g b c) → OnOk r (Puts (λ tail. f (g tail)) a c)
last (Ok x) g c p q = p ▸ q
last (Err e) g c p q = tt

-- a word or symbol that is another one
pub said : {m n : Mark} {a b : List ℕ} → m ≡ n → Puts (word m) a b → Puts (word n) a b
said {m} {n} {a} {b} e p = subst (λ x. Puts (word x) a b) e p

-- the same where there may be none
pub said_optional : {m n : Option Mark} {a b : List ℕ} → m ≡ n → Puts (optional word m) a b → Puts (optional word n) a b
said_optional {m} {n} {a} {b} e p = subst (λ x. Puts (optional word x) a b) e p

-- the same part, said in another way
pub on_text : {E : Type 0} (r : Result (Unit {0}) E) (f : Text) {g : Text} (a c : List ℕ) → ◌≡◌ {A = Text} f g → OnOk r (Puts f a c) → OnOk r (Puts g a c)
on_text r f {g} a c e p = subst (λ h. OnOk r (Puts h a c)) e p

-- the same elements, reached in another way
pub shown : {A : Type 0} (spell : A → Text) {x y : A} (a c : List ℕ) → x ≡ y → Puts (spell x) a c → Puts (spell y) a c
shown {A} spell {x} {y} a c e p = subst (λ z. Puts (spell z) a c) e p
