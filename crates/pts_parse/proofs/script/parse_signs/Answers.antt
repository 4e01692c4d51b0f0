use Rattle.std.proofs.Common.{◌≡◌, Result, Ok, Err, IfOk, ◌∙◌, ℕ, List}
use Rattle.pts_tree.specs.Signs.{Sign}
use Rattle.pts_tree.specs.declared.script.Script.{Script}
use Rattle.pts_parse.specs.declared.reader.Stop.{Stop}
use Rattle.pts_parse.specs.declared.reader.Stop.TheVariants as stops
use Rattle.pts_parse.specs.Brackets.{bracket_limit}
use Rattle.pts_parse.specs.Promise.{IsRead, IsUnexpected, IsNesting}
use Rattle.pts_parse.specs.Reading.{Gives}
use Rattle.pts_parse.specs.ScriptReading.{script}
use Rattle.pts_parse.proofs.WholeScripts.{read_is, unexpected_read, nesting_read}
use Rattle.pts_parse.proofs.script.parse_signs.Goals as goal

found : (ts : List Sign) (o : Result Script Stop) → Gives (λ x. x) o (script bracket_limit ts) → IfOk o (IsRead ts)
found ts (Ok x) g = read_is ts x g
found ts (Err e) g = tt

wrong : (ts : List Sign) (o : Result Script Stop) → Gives (λ x. x) o (script bracket_limit ts) → (left : ℕ) → o ≡ Err (stops.Unexpected left) → IsUnexpected ts left
wrong ts (Ok x) g left e = absurd (cc)
wrong ts (Err (stops.Unexpected n)) g left e = unexpected_read ts left (g ∙ e)
wrong ts (Err (stops.Nesting n)) g left e = absurd (cc)
wrong ts (Err stops.NoMemory) g left e = absurd (cc)

deep : (ts : List Sign) (o : Result Script Stop) → Gives (λ x. x) o (script bracket_limit ts) → (left : ℕ) → o ≡ Err (stops.Nesting left) → IsNesting ts left
deep ts (Ok x) g left e = absurd (cc)
deep ts (Err (stops.Unexpected n)) g left e = absurd (cc)
deep ts (Err (stops.Nesting n)) g left e = nesting_read ts left (g ∙ e)
deep ts (Err stops.NoMemory) g left e = absurd (cc)

pub returns-clause-script : goal.returns-clause-script
returns-clause-script c = found c.args.signs.now c.script.result c.script.ensures

pub returns-clause-unexpected : goal.returns-clause-unexpected
returns-clause-unexpected c left e = wrong c.args.signs.now c.script.result c.script.ensures left e

pub returns-clause-nesting : goal.returns-clause-nesting
returns-clause-nesting c left e = deep c.args.signs.now c.script.result c.script.ensures left e
