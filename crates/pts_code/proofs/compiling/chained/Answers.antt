use Rattle.std.proofs.Common.{map, sym, ap, ◌∙◌}
use Rattle.pts_code.specs.declared.code.Code.TheVariants as codes
use Rattle.pts_code.specs.Codes.{gives}
use Rattle.pts_code.specs.Compiling.{step_at}
use Rattle.pts_code.specs.Outcomes.{from_left}
use Rattle.pts_code.proofs.Chains.{longer_chain}
use Rattle.pts_code.proofs.Given.{gives-Chain}
use Rattle.pts_code.proofs.compiling.chained.Goals as goal

pub returns-in_ok-append-in-Chain : goal.returns-in_ok-append-in-Chain
returns-in_ok-append-in-Chain c = λ sight.
    ap (λ steps. gives sight (codes.Chain c.in-Chain.first steps)) c.in_ok-append-in-Chain.ensures
    ∙ longer_chain sight c.in-Chain.first c.in-Chain.before c.args.steps
    ∙ ap (λ code. from_left (gives sight code) (map (step_at sight) c.args.steps)) (sym c.in-Chain.is)

pub returns-in_ok-new-in_default : goal.returns-in_ok-new-in_default
returns-in_ok-new-in_default c = λ sight.
    gives-Chain sight c.in_ok-new-in_default.field-0 c.args.steps
    ∙ ap (λ code. from_left (gives sight code) (map (step_at sight) c.args.steps)) c.in_ok-new-in_default.ensures
