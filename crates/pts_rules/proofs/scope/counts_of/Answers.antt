use Rattle.std.proofs.Common.{rules, sym}
use Rattle.pts_rules.proofs.Scoping.{last_few}
use Rattle.pts_rules.proofs.scope.counts_of.Goals as goal

pub with-requires : goal.with-requires
with-requires c = last_few c.args.rows.now c.in-Some.row.now (sym c.in-Some.ensures.value) c.requires (search rules)
