-- What map calls answer, in the words of the definitions.
use Rattle.pts_eval.specs.Maps.{MapEnd}
use Rattle.pts_eval.specs.Maps as ends
use Rattle.pts_maps.specs.declared.answers.Answer.{Answer}
use Rattle.pts_maps.specs.declared.answers.Answer.TheVariants as answers

abbrev pub end_of : Answer → MapEnd
end_of answers.Done = ends.Done
end_of (answers.Index place) = ends.Index place
end_of (answers.Count n) = ends.Count n
end_of answers.Terminated = ends.Terminated
