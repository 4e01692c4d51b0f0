-- The lines of one more answer.
use Rattle.std.proofs.Common.{◌≡◌, ℕ, ◌+◌, List, [], ◌∷◌, ◌++◌, length, sym, ap, ◌∙◌, arith, append_assoc, append-nil}
use Rattle.pts_eval.specs.Runs.{Answer}
use Rattle.pts_run.specs.Text.{line_of, lines_from}

pub lines_from-push : (number : ℕ) (answers : List Answer) (a : Answer) → lines_from number (answers ++ a ∷ []) ≡ lines_from number answers ++ line_of (number + length answers) a
lines_from-push number [] a = append-nil (line_of number a) ∙ ap (λ n. line_of n a) (omega arith)
lines_from-push number (x ∷ xs) a =
    ap (λ text. line_of number x ++ text) (lines_from-push (number + 1) xs a)
    ∙ sym (append_assoc (line_of number x) (lines_from (number + 1) xs) (line_of (number + 1 + length xs) a))
    ∙ ap (λ n. line_of number x ++ lines_from (number + 1) xs ++ line_of n a) (omega arith)

-- three pieces put behind a text, one after the other
pub three : (a b c d x y z : List ℕ) → b ≡ a ++ x → c ≡ b ++ y → d ≡ c ++ z → d ≡ a ++ (x ++ (y ++ z))
three a b c d x y z h k l = l ∙ ap (λ t. t ++ z) (k ∙ ap (λ t. t ++ y) h) ∙ append_assoc (a ++ x) y z ∙ append_assoc a x (y ++ z)
