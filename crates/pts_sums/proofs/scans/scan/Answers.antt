use Rattle.pts_sums.proofs.Found.{scan_found}
use Rattle.pts_sums.proofs.scans.scan.Goals as goal

pub returns : goal.returns
returns g c =
    rw (← c.program-program.ensures.same)
    (scan_found c.program-program.result.now.functions (g.V.View.stands c.args.view.now) c.args.pool c.in-Some.scan _ c.find_scan.result c.scan.result c.find_scan.ensures c.in-Some.is c.scan.ensures)
