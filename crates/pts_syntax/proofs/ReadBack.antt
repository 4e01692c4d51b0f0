-- What a script prints as is read as that script.
use Rattle.std.proofs.Common.{[], refl}
use Rattle.pts_tree.specs.declared.script.Script.{Script}
use Rattle.pts_print.specs.Canonical.{canonical}
use Rattle.pts_tree.specs.Scripts.{script}
use Rattle.pts_syntax.specs.Syntax.{IsParsed, IsWritable}
use Rattle.pts_syntax.proofs.CanonicalTokens.{canonical_text}

pub read_back : (x : Script) → IsWritable x → IsParsed (canonical x) x
read_back x w =
    let text = canonical_text x w.sayable in
    record {
      tokens = text.0;
      signs = script x [];
      text = text.1;
      read = record { spells = record { text = refl; allowed = w.allowed }; brackets = w.brackets };
    }
