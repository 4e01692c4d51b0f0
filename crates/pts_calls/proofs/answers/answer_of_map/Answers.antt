use Rattle.std.proofs.Common.{subst}
use Rattle.pts_eval.specs.Maps.{PermitsAnswer}
use Rattle.pts_maps.specs.Answers.{end_of}
use Rattle.pts_calls.proofs.Results.{map_counted, map_done, map_found, map_thrown}
use Rattle.pts_calls.proofs.answers.answer_of_map.Goals as goal

pub returns-in-Done : goal.returns-in-Done
returns-in-Done c = λ pool lists number call store h.
    map_done pool lists number store c.args.answer.writes call (subst (λ a. PermitsAnswer pool.workers lists.functions store call (end_of a) c.args.answer.writes) c.in-Done.is h)

pub returns-in-Index : goal.returns-in-Index
returns-in-Index c = λ pool lists number call store h.
    map_found pool lists number store c.args.answer.writes c.in-Index.place call (subst (λ a. PermitsAnswer pool.workers lists.functions store call (end_of a) c.args.answer.writes) c.in-Index.is h)

pub returns-in-Count : goal.returns-in-Count
returns-in-Count c = λ pool lists number call store h.
    map_counted pool lists number store c.args.answer.writes c.in-Count.count call (subst (λ a. PermitsAnswer pool.workers lists.functions store call (end_of a) c.args.answer.writes) c.in-Count.is h)

pub returns-in-Terminated : goal.returns-in-Terminated
returns-in-Terminated c = λ pool lists number call store h.
    map_thrown pool lists number store c.args.answer.writes call (subst (λ a. PermitsAnswer pool.workers lists.functions store call (end_of a) c.args.answer.writes) c.in-Terminated.is h)
