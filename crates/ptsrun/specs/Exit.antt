-- The numbers that the program ends with.
use Rattle.std.specs.Prelude.{ℕ}
use Rattle.pts_run.specs.declared.status.Status.{Status}
use Rattle.pts_run.specs.declared.status.Status.TheVariants as status
use Rattle.std.specs.declared.io.ErrorKind.{ErrorKind}
use Rattle.std.specs.declared.io.ErrorKind.TheVariants.{OutOfMemory}

abbrev pub number_of : Status → ℕ
number_of status.Done = 0
number_of status.Usage = 1
number_of status.Refused = 2
number_of status.Terminated = 3
number_of status.ReadFault = 4
number_of status.WriteFault = 5
number_of status.NoMemory = 6

-- where the words cannot be had there was no memory for them, or they are not text
abbrev pub number_without_words : ErrorKind → ℕ
number_without_words OutOfMemory = 6
number_without_words _ = 7
