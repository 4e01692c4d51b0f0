use Rattle.std.proofs.Common.{◌≡◌, length, map}
use Rattle.pts_lex.specs.Lexical.{is_among}
use Rattle.pts_lex.proofs.token.is_among.Given as goal

abbrev pub invariant-loop-texts : goal.invariant-loop-texts
invariant-loop-texts l = is_among (map (λ t. t.now) l.texts) l.text ≡ is_among (map (λ t. t.now) l.initial.texts) l.text

abbrev pub decreases-loop-texts : goal.decreases-loop-texts
decreases-loop-texts l = length l.texts
