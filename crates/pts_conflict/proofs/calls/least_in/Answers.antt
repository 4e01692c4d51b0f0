use Rattle.std.proofs.Common.{◌≤◌, ◌^◌, List, get_or, subst, sym, refl, arith}
use Rattle.std.specs.Prelude.{All}
use Rattle.pts_types.specs.declared.operation.Policy.TheVariants as policies
use Rattle.pts_points.specs.declared.point.CallInfo.{CallInfo}
use Rattle.pts_program.proofs.MatchedCalls.{calls_counted}
use Rattle.pts_points.specs.declared.point.PointInfo.{PointInfo}
use Rattle.pts_layout.specs.Layout.{points_of_call}
use Rattle.pts_conflict.specs.Search.{Across, FindsFirst, IsFit, PairInCall, rank_of}
use Rattle.pts_conflict.proofs.CallPairs.{found_in_call, none_in_order, own_fits}
use Rattle.pts_conflict.proofs.ProgramLaws.{few}
use Rattle.pts_conflict.proofs.Ranges.{all_at, slice_is}
use Rattle.pts_conflict.proofs.calls.least_in.Goals as goal

-- what an index past the end would give
abbrev nowhere : CallInfo
nowhere = record { item = 0; policy = policies.Seq; positions = 0; first_point = 0; points = 0 }

pub returns-then-runs_in_order : goal.returns-then-runs_in_order
returns-then-runs_in_order c =
    let lists = c.args.program.now in
    let call : CallInfo = get_or c.calls.result.now c.args.number nowhere in
    let at = slice_is lists.calls c.calls.result.now c.args.number call nowhere c.calls.ensures c.requires refl in
    none_in_order lists c.keeps_its_promises.ensures c.args.number call at (c.runs_in_order.ensures.yes c.if-runs_in_order.true)

pub is_loop-requires : goal.is_loop-requires
is_loop-requires c = let h = c.requires in let size = (calls_counted c.args.program.now c.keeps_its_promises.ensures).1 in omega (arith, h, size)

pub least_across-requires-clause-fits : goal.least_across-requires-clause-fits
least_across-requires-clause-fits c =
    let lists = c.args.program.now in
    let call : CallInfo = get_or c.calls.result.now c.args.number nowhere in
    let at = slice_is lists.calls c.calls.result.now c.args.number call nowhere c.calls.ensures c.requires refl in
    all_at (λ x. x.positions ≤ 2 ^ 20) lists.calls c.args.number call at (few lists c.keeps_its_promises.ensures)

pub least_across-requires-clause-firsts : goal.least_across-requires-clause-firsts
least_across-requires-clause-firsts c =
    let lists = c.args.program.now in
    let call : CallInfo = get_or c.calls.result.now c.args.number nowhere in
    let at = slice_is lists.calls c.calls.result.now c.args.number call nowhere c.calls.ensures c.requires refl in
    subst (All IsFit) (sym (c.points_of_call-points.ensures call at)) (own_fits lists c.keeps_its_promises.ensures c.args.number call at)

pub least_across-requires-clause-seconds : goal.least_across-requires-clause-seconds
least_across-requires-clause-seconds c =
    let lists = c.args.program.now in
    let call : CallInfo = get_or c.calls.result.now c.args.number nowhere in
    let at = slice_is lists.calls c.calls.result.now c.args.number call nowhere c.calls.ensures c.requires refl in
    subst (All IsFit) (sym (c.points_of_call-points.ensures call at)) (own_fits lists c.keeps_its_promises.ensures c.args.number call at)

pub returns : goal.returns
returns c =
    let lists = c.args.program.now in
    let call : CallInfo = get_or c.calls.result.now c.args.number nowhere in
    let at = slice_is lists.calls c.calls.result.now c.args.number call nowhere c.calls.ensures c.requires refl in
    let own : List PointInfo = points_of_call lists.points call in
    found_in_call lists c.keeps_its_promises.ensures c.args.number call at c.least_across.result (c.runs_in_order.ensures.no c.if-runs_in_order.false)
    (subst (λ b. FindsFirst (Across (PairInCall c.args.number call b) own own) rank_of c.least_across.result) c.is_loop.ensures
    (subst (λ ps. FindsFirst (Across (PairInCall c.args.number call c.is_loop.result) ps ps) rank_of c.least_across.result) (c.points_of_call-points.ensures call at) c.least_across.ensures))
