use Rattle.std.proofs.Common.{◌≡◌, ◌≤◌, List, ℕ, length, ap, subst, arith}
use Rattle.std.proofs.KnownBytes.{Consumes-whole}
use Rattle.pts_syntax.specs.Syntax.{Explains, IsParsed}
use Rattle.pts_run.specs.declared.script.ScriptFault.TheVariants.{Refused}
use Rattle.pts_run.specs.Output.{Refuses, script_limit}
use Rattle.pts_run.proofs.Sizes.{spelled}
use Rattle.pts_run.proofs.script.read_script.Goals as goal

pub returns-clause-refuses : goal.returns-clause-refuses
returns-clause-refuses g c = λ command reason e.
    let short : length c.in-Ok.bytes.items ≤ script_limit = omega (arith, c.in-Ok.ensures.within, c.deref.ensures.len, ap length c.deref.ensures.value) in
    let explains : Explains c.in-Ok.bytes.items c.in-Err.fault = subst (λ (bytes : List ℕ). Explains bytes c.in-Err.fault) c.deref.ensures.value c.in-Err.ensures.fault in
    let refused : c.fault_of.result ≡ Refused reason = cc in
    Consumes-whole _ _ _ (λ (bytes : List ℕ). Refuses command bytes reason) c.in-Ok.ensures.whole c.in-Ok.ensures.end (c.fault_of.ensures.refuses command c.in-Ok.bytes.items reason short explains refused)

pub returns-in-Ok-parse-clause-spelled : goal.returns-in-Ok-parse-clause-spelled
returns-in-Ok-parse-clause-spelled g c =
    let short : length c.in-Ok.bytes.items ≤ script_limit = omega (arith, c.in-Ok.ensures.within, c.deref.ensures.len, ap length c.deref.ensures.value) in
    let parsed : IsParsed c.in-Ok.bytes.items c.in-Ok-parse.script = subst (λ (bytes : List ℕ). IsParsed bytes c.in-Ok-parse.script) c.deref.ensures.value c.in-Ok-parse.ensures.script in
    spelled c.in-Ok.bytes.items c.in-Ok-parse.script short parsed
