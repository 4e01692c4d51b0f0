-- What reading a script along its rule promises of the whole list of signs.
use Rattle.std.proofs.Common.{◌≡◌, ℕ, suc, ◌≤◌, true, false, List, [], ◌∷◌, length, Some, None, Result, Ok, Err, IfSome, sym, subst, append-nil}
use Rattle.pts_tree.specs.declared.script.Script.{Script}
use Rattle.pts_tree.specs.Signs.{Sign}
use Rattle.pts_tree.specs.Grammar.{Rule, Row, The, rows, Matches, whole, IsPhrase}
use Rattle.pts_tree.specs.Scripts.{Spells}
use Rattle.pts_parse.specs.declared.reader.Stop.{Stop}
use Rattle.pts_parse.specs.declared.reader.Stop.TheVariants as stops
use Rattle.pts_parse.specs.Brackets.{beyond, bracket_limit}
use Rattle.pts_parse.specs.Reading.{Read, and_then}
use Rattle.pts_parse.specs.Promise.{IsUnexpected, IsNesting}
use Rattle.pts_parse.proofs.Passes.{Stops, too_many, Passes, FailsBy, at_wrong, at_bracket, Along, reads, fails, beyond_within}
use Rattle.pts_parse.proofs.Lookahead.{wrong_at, right_at}

-- reading this row and nothing behind it fails with this fault, and rightly so
pub data Fault (row : Row) (room : ℕ) (ts : List Sign) : Stop → Type 0 where
  wrong_here : (left : ℕ) → Stops false row ts left → IfSome (beyond room ts) (λ l. l ≤ left) → Fault row room ts (stops.Unexpected left)
  bracket_here : (left : ℕ) → Stops true row ts left → beyond room ts ≡ Some left → Fault row room ts (stops.Nesting left)

-- what was read takes all signs, or the fault is right
pub data Whole (row : Row) (room : ℕ) {A : Type 0} (Q : A → Type 0) (ts : List Sign) : Result A Stop → Type 0 where
  reads_all : (x : A) → Q x → Matches rows true row ts → beyond room ts ≡ None → Whole row room Q ts (Ok x)
  faulty : (e : Stop) → Fault row room ts e → Whole row room Q ts (Err e)

fault_of : (row : Row) (room : ℕ) (ts : List Sign) (e : Stop) → FailsBy row room ts e → Fault row room ts e
fault_of row room ts _ (at_wrong left s b) = wrong_here left (rw (append-nil row) at (s [])) b
fault_of row room ts _ (at_bracket left s b) = bracket_here left (rw (append-nil row) at (s [])) b

-- a sign that is left behind a row is one too many
too_many_left : (row : Row) (room room' : ℕ) (ts : List Sign) (t : Sign) (after : List Sign) → Passes row room ts room' (t ∷ after)
    → Fault row room ts (stops.Unexpected (suc (length after)))
too_many_left row room room' ts t after p =
    wrong_here (suc (length after)) (rw (append-nil row) at (p.stops false [] (suc (length after)) too_many))
    (subst (λ o. IfSome o (λ l. l ≤ suc (length after))) (sym p.within) (beyond_within room' (t ∷ after)))

-- what reads a row and then sees to it that no sign is left
pub whole_along : {A B : Type 0} {row : Row} {room room' : ℕ} {QA : A → List Sign → Type 0} {Q : B → Type 0} {ts : List Sign} {o : Read A}
    (f : A × List Sign → Result B Stop) (value : A → B)
    → ((x : A) → f (x, []) ≡ Ok (value x))
    → ((x : A) (t : Sign) (after : List Sign) → f (x, t ∷ after) ≡ Err (stops.Unexpected (suc (length after))))
    → Along row room room' QA ts o
    → ((x : A) → QA x [] → Q (value x))
    → Whole row room Q ts (and_then o f)
unfolding and_then
whole_along {row = row} {room = room} {ts = ts} f value at_end behind (reads x [] q p) good =
    rw (at_end x) (reads_all (value x) (good x q) (rw (append-nil row) at (p.matches true [] whole)) p.within)
whole_along {row = row} {room = room} {room' = room'} {ts = ts} f value at_end behind (reads x (t ∷ after) q p) good =
    rw (behind x t after) (faulty (stops.Unexpected (suc (length after))) (too_many_left row room room' ts t after p))
whole_along {row = row} {room = room} {ts = ts} f value at_end behind (fails e g) good = faulty e (fault_of row room ts e g)

-- a script that ends at a sign which does not go on
pub unexpected_is : (ts : List Sign) (left : ℕ) → Fault (The Rule.script ∷ []) bracket_limit ts (stops.Unexpected left)
    → ((x : Script) → Spells ts x → IsPhrase (The Rule.script) ts) → IsUnexpected ts left
unexpected_is ts _ (wrong_here left s b) phrase =
    let w = wrong_at ts left s in
    record { within = w.within; before = w.before; brackets = b; wrong = w.wrong; no_script = λ x h. w.no_phrase (phrase x h) }

-- a script that ends at a bracket too many
pub nesting_is : (ts : List Sign) (left : ℕ) → Fault (The Rule.script ∷ []) bracket_limit ts (stops.Nesting left) → IsNesting ts left
nesting_is ts _ (bracket_here left s b) =
    let r = right_at ts left s in
    record { beyond_is = b; within = r.within; viable = r.viable_with }
