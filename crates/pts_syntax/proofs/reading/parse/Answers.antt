use Rattle.std.proofs.Common.{rules}
use Rattle.pts_lex.specs.Lexical as lexical
use Rattle.pts_syntax.proofs.reading.parse.Goals as goal

pub returns-in-Err-clause-fault : goal.returns-in-Err-clause-fault
returns-in-Err-clause-fault c =
    let why : lexical.Explains c.args.bytes.now c.in-Err.fault = search rules in
    c.lexical.ensures c.args.bytes.now why
