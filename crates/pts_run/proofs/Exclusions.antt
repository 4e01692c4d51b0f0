-- No command takes bytes that it refuses, and it refuses bytes for one reason.
use Rattle.std.proofs.Common.{◌⊎◌, inl, inr, ◌≡◌, ◌<◌, ℕ, Some, None, List, length, refl, sym, ap, subst, ◌∙◌, arith}
use Rattle.pts_tree.specs.declared.script.Script.{Script}
use Rattle.pts_syntax.specs.declared.reading.SyntaxFault.{SyntaxFault}
use Rattle.pts_syntax.proofs.OneFault.{same_script, no_fault_of_a_script, same_fault}
use Rattle.pts_program.specs.declared.lists.Lists.{Lists}
use Rattle.pts_program.specs.Faults.{IsSound}
use Rattle.pts_program.specs.Lists.{IsProgram, lists_of}
use Rattle.pts_program.proofs.FirstFaults.{fault-or_sound, fault-unique}
use Rattle.pts_conflict.specs.Conflicts.{IsClear}
use Rattle.pts_conflict.proofs.OneConflict.{none_least, one_conflict}
use Rattle.pts_eval.specs.Built.{first_later}
use Rattle.pts_run.specs.declared.refusal.Conflict.{Conflict}
use Rattle.pts_run.specs.declared.refusal.Refusal.{Refusal}
use Rattle.pts_run.specs.declared.refusal.Refusal.TheVariants as refusals
use Rattle.pts_run.specs.declared.status.Status.{Status}
use Rattle.pts_run.specs.declared.status.Status.TheVariants as status
use Rattle.pts_run.specs.declared.words.Command.{Command}
use Rattle.pts_run.specs.declared.words.Command.TheVariants as commands
use Rattle.pts_run.specs.Acceptance.{HasConflict, IsAccepted, IsLater, IsRunnable, Rejects, RejectsRun, array_name}
use Rattle.pts_run.proofs.Sizes.{spelled}
use Rattle.pts_run.specs.Output.{Reads, Takes, TakesToTerminate, FailsBy, IsAsScriptSays, IsDecided, RejectsFor, Refuses}

-- ---- scripts and faults

-- what a command takes is a script
read_of : (command : Command) (bytes : List ℕ) → Takes command bytes → (script : Script) × Reads bytes script
read_of (commands.Run pool) bytes h = (h.1.script, h.1.reads)
read_of commands.Check bytes h = (h.1.script, h.1.reads)
read_of commands.Print bytes h = h

-- ---- scripts that are not taken

-- the lists of a script that breaks no rule are a program
program_of : (bytes : List ℕ) (script : Script) → Reads bytes script → IsSound script → IsProgram (lists_of script)
program_of bytes script reads sound = record { script = script; sound = sound; spelled = spelled bytes script reads.short reads.parsed; made = refl }

same_conflict : (bytes : List ℕ) (script : Script) (x y : Conflict) → Reads bytes script → HasConflict script x → HasConflict script y → x ≡ y
same_conflict bytes script x y reads h g =
    let pair = one_conflict (lists_of script) (program_of bytes script reads h.sound) x.pair y.pair h.named.least g.named.least in
    let name = h.named.name ∙ ap (λ z. array_name script z.array) pair ∙ sym g.named.name in
    λ i. record { array = name i; pair = pair i }

same_cause : (bytes : List ℕ) (script : Script) (reason other : Refusal) → Reads bytes script → Rejects script reason → Rejects script other → reason ≡ other
same_cause bytes script (refusals.Build fault) (refusals.Build another) reads h g = ap (λ f. refusals.Build f) (fault-unique script h.0 g.0 fault another h.1 g.1).1
same_cause bytes script (refusals.Build fault) (refusals.Conflict x) reads h c = absurd (fault-or_sound script h.0 fault h.1 c.sound)
same_cause bytes script (refusals.Conflict x) (refusals.Build fault) reads c h = absurd (fault-or_sound script h.0 fault h.1 c.sound)
same_cause bytes script (refusals.Conflict x) (refusals.Conflict y) reads h g = ap (λ c. refusals.Conflict c) (same_conflict bytes script x y reads h g)
same_cause bytes script refusals.TooLong other reads h g = absurd h
same_cause bytes script (refusals.Syntax fault) other reads h g = absurd h
same_cause bytes script (refusals.Later item) other reads h g = absurd h
same_cause bytes script (refusals.Build fault) refusals.TooLong reads h g = absurd g
same_cause bytes script (refusals.Build fault) (refusals.Syntax another) reads h g = absurd g
same_cause bytes script (refusals.Build fault) (refusals.Later item) reads h g = absurd g
same_cause bytes script (refusals.Conflict x) refusals.TooLong reads h g = absurd g
same_cause bytes script (refusals.Conflict x) (refusals.Syntax another) reads h g = absurd g
same_cause bytes script (refusals.Conflict x) (refusals.Later item) reads h g = absurd g

built_or_later : (script : Script) (item : ℕ) → first_later (lists_of script) ≡ None → IsLater script item → ⊥
built_or_later script item none l = let e : None ≡ Some item = sym none ∙ l.1 in cc

same_run_cause : (bytes : List ℕ) (script : Script) (reason other : Refusal) → Reads bytes script → RejectsRun script reason → RejectsRun script other → reason ≡ other
same_run_cause bytes script (refusals.Build fault) (refusals.Build another) reads h g = ap (λ f. refusals.Build f) (fault-unique script h.0 g.0 fault another h.1 g.1).1
same_run_cause bytes script (refusals.Build fault) (refusals.Later item) reads h l = absurd (fault-or_sound script h.0 fault h.1 l.0)
same_run_cause bytes script (refusals.Build fault) (refusals.Conflict x) reads h c = absurd (fault-or_sound script h.0 fault h.1 c.0.sound)
same_run_cause bytes script (refusals.Later item) (refusals.Build fault) reads l h = absurd (fault-or_sound script h.0 fault h.1 l.0)
same_run_cause bytes script (refusals.Later item) (refusals.Later other) reads l m = let e : Some item ≡ Some other = sym l.1 ∙ m.1 in let same : item ≡ other = cc in ap (λ n. refusals.Later n) same
same_run_cause bytes script (refusals.Later item) (refusals.Conflict x) reads l c = absurd (built_or_later script item c.1 l)
same_run_cause bytes script (refusals.Conflict x) (refusals.Build fault) reads c h = absurd (fault-or_sound script h.0 fault h.1 c.0.sound)
same_run_cause bytes script (refusals.Conflict x) (refusals.Later item) reads c l = absurd (built_or_later script item c.1 l)
same_run_cause bytes script (refusals.Conflict x) (refusals.Conflict y) reads h g = ap (λ c. refusals.Conflict c) (same_conflict bytes script x y reads h.0 g.0)
same_run_cause bytes script refusals.TooLong other reads h g = absurd h
same_run_cause bytes script (refusals.Syntax fault) other reads h g = absurd h
same_run_cause bytes script (refusals.Build fault) refusals.TooLong reads h g = absurd g
same_run_cause bytes script (refusals.Build fault) (refusals.Syntax another) reads h g = absurd g
same_run_cause bytes script (refusals.Later item) refusals.TooLong reads h g = absurd g
same_run_cause bytes script (refusals.Later item) (refusals.Syntax another) reads h g = absurd g
same_run_cause bytes script (refusals.Conflict x) refusals.TooLong reads h g = absurd g
same_run_cause bytes script (refusals.Conflict x) (refusals.Syntax another) reads h g = absurd g

-- a script that is accepted is not rejected
not_both : (script : Script) (lists : Lists) (reason : Refusal) → IsAccepted script lists → ¬ Rejects script reason
not_both script lists (refusals.Build fault) a h = fault-or_sound script h.0 fault h.1 a.sound
not_both script lists (refusals.Conflict x) a h = none_least (lists_of script) x.pair (subst IsClear a.made a.clear) h.named.least
not_both script lists (refusals.Later item) a h = h
not_both script lists refusals.TooLong a h = h
not_both script lists (refusals.Syntax fault) a h = h

-- and one that is run is not refused
not_both_run : (script : Script) (lists : Lists) (reason : Refusal) → IsRunnable script lists → ¬ RejectsRun script reason
not_both_run script lists (refusals.Build fault) a h = fault-or_sound script h.0 fault h.1 a.accepted.sound
not_both_run script lists (refusals.Conflict x) a h = none_least (lists_of script) x.pair (subst IsClear a.accepted.made a.accepted.clear) h.0.named.least
not_both_run script lists (refusals.Later item) a l = built_or_later script item (sym (ap first_later a.accepted.made) ∙ a.built) l
not_both_run script lists refusals.TooLong a h = h
not_both_run script lists (refusals.Syntax fault) a h = h

taken_or_rejected : (command : Command) (bytes : List ℕ) (reason : Refusal) → Takes command bytes → RejectsFor command bytes reason → ⊥
taken_or_rejected (commands.Run pool) bytes reason a r =
    let same = same_script bytes r.0 a.1.script r.1.parsed a.1.reads.parsed in
    not_both_run a.1.script a.0 reason a.1.runnable (subst (λ (s : Script). RejectsRun s reason) same r.2)
taken_or_rejected commands.Check bytes reason a r =
    let same = same_script bytes r.0 a.1.script r.1.parsed a.1.reads.parsed in
    not_both a.1.script a.0 reason a.1.accepted (subst (λ (s : Script). Rejects s reason) same r.2)
taken_or_rejected commands.Print bytes reason h r = absurd r

-- what is rejected is a script
rejected_script : (command : Command) (bytes : List ℕ) (reason : Refusal) → RejectsFor command bytes reason → (script : Script) × Reads bytes script
rejected_script (commands.Run pool) bytes reason r = (r.0, r.1)
rejected_script commands.Check bytes reason r = (r.0, r.1)
rejected_script commands.Print bytes reason r = absurd r

one_cause : (command : Command) (bytes : List ℕ) (reason other : Refusal) → RejectsFor command bytes reason → RejectsFor command bytes other → reason ≡ other
one_cause (commands.Run pool) bytes reason other r t =
    let same = same_script bytes t.0 r.0 t.1.parsed r.1.parsed in
    same_run_cause bytes r.0 reason other r.1 r.2 (subst (λ (s : Script). RejectsRun s other) same t.2)
one_cause commands.Check bytes reason other r t =
    let same = same_script bytes t.0 r.0 t.1.parsed r.1.parsed in
    same_cause bytes r.0 reason other r.1 r.2 (subst (λ (s : Script). Rejects s other) same t.2)
one_cause commands.Print bytes reason other r t = absurd r

-- ---- one reason

-- a reason by what it rests on
data Why (command : Command) (bytes : List ℕ) : Refusal → Type 0 where
  too_long : 1048576 < length bytes → Why command bytes refusals.TooLong
  faulty : (fault : SyntaxFault) → FailsBy bytes fault → Why command bytes (refusals.Syntax fault)
  rejected : (reason : Refusal) → RejectsFor command bytes reason → Why command bytes reason

why : (command : Command) (bytes : List ℕ) (reason : Refusal) → Refuses command bytes reason → Why command bytes reason
why command bytes refusals.TooLong r = too_long r
why command bytes (refusals.Syntax fault) r = faulty fault r
why command bytes (refusals.Build fault) r = rejected (refusals.Build fault) r
why command bytes (refusals.Later item) r = rejected (refusals.Later item) r
why command bytes (refusals.Conflict conflict) r = rejected (refusals.Conflict conflict) r

pub excludes : (command : Command) (bytes : List ℕ) (reason : Refusal) → Takes command bytes → Refuses command bytes reason → ⊥
excludes command bytes reason h r = by_why reason (why command bytes reason r)
  where
    by_why : (other : Refusal) → Why command bytes other → ⊥
    by_why _ (too_long l) = let reads = (read_of command bytes h).1 in omega (arith, l, reads.short)
    by_why _ (faulty fault f) = let reads = read_of command bytes h in absurd (f.known (no_fault_of_a_script bytes reads.0 fault reads.1.parsed f.explains))
    by_why other (rejected _ j) = taken_or_rejected command bytes other h j

one_by : (command : Command) (bytes : List ℕ) (reason other : Refusal) → Why command bytes reason → Why command bytes other → reason ≡ other
one_by command bytes _ _ (too_long h) (too_long i) = refl
one_by command bytes _ _ (too_long h) (faulty fault f) = absurd (omega (arith, h, f.short))
one_by command bytes _ _ (too_long h) (rejected reason r) = let s = rejected_script command bytes reason r in absurd (omega (arith, h, s.1.short))
one_by command bytes _ _ (faulty fault f) (too_long i) = absurd (omega (arith, i, f.short))
one_by command bytes _ _ (faulty fault f) (faulty another g) = ap (λ (x : SyntaxFault). refusals.Syntax x) (same_fault bytes fault another f.explains g.explains f.known g.known)
one_by command bytes _ _ (faulty fault f) (rejected reason r) =
    let s = rejected_script command bytes reason r in absurd (f.known (no_fault_of_a_script bytes s.0 fault s.1.parsed f.explains))
one_by command bytes _ _ (rejected reason r) (too_long i) = let s = rejected_script command bytes reason r in absurd (omega (arith, i, s.1.short))
one_by command bytes _ _ (rejected reason r) (faulty fault f) =
    let s = rejected_script command bytes reason r in absurd (f.known (no_fault_of_a_script bytes s.0 fault s.1.parsed f.explains))
one_by command bytes _ _ (rejected reason r) (rejected other t) = one_cause command bytes reason other r t

pub one_reason : (command : Command) (bytes : List ℕ) (reason other : Refusal) → Refuses command bytes reason → Refuses command bytes other → reason ≡ other
one_reason command bytes reason other r s = one_by command bytes reason other (why command bytes reason r) (why command bytes other s)

-- ---- what the bytes decide

-- what may be terminated is taken
terminated_takes : (command : Command) (bytes : List ℕ) → TakesToTerminate command bytes → Takes command bytes
terminated_takes (commands.Run pool) bytes h = (h.0, h.1)
terminated_takes commands.Check bytes h = absurd h
terminated_takes commands.Print bytes h = absurd h

decides_taken : (command : Command) (bytes : List ℕ) (answer : Status) → IsAsScriptSays command bytes answer → Takes command bytes → (answer ≡ status.Done) ⊎ (answer ≡ status.Terminated) ⊎ (answer ≡ status.NoMemory)
decides_taken command bytes status.Done said takes = inl refl
decides_taken command bytes status.Terminated said takes = inr (inl refl)
decides_taken command bytes status.NoMemory said takes = inr (inr refl)
decides_taken command bytes status.Refused said takes = absurd (excludes command bytes said.0 takes said.1)
decides_taken command bytes status.Usage said takes = absurd said
decides_taken command bytes status.ReadFault said takes = absurd said
decides_taken command bytes status.WriteFault said takes = absurd said

decides_refused : (command : Command) (bytes : List ℕ) (answer : Status) (reason : Refusal) → IsAsScriptSays command bytes answer → Refuses command bytes reason
    → (answer ≡ status.Refused) ⊎ (answer ≡ status.NoMemory)
decides_refused command bytes status.Done reason said refuses = absurd (excludes command bytes reason said refuses)
decides_refused command bytes status.Terminated reason said refuses = absurd (excludes command bytes reason (terminated_takes command bytes said) refuses)
decides_refused command bytes status.NoMemory reason said refuses = inr refl
decides_refused command bytes status.Refused reason said refuses = inl refl
decides_refused command bytes status.Usage reason said refuses = absurd said
decides_refused command bytes status.ReadFault reason said refuses = absurd said
decides_refused command bytes status.WriteFault reason said refuses = absurd said

pub decided : (command : Command) (bytes : List ℕ) (answer : Status) → IsAsScriptSays command bytes answer → IsDecided command bytes answer
decided command bytes answer said = record {
  said = said;
  taken = decides_taken command bytes answer said;
  refused = λ reason refuses. decides_refused command bytes answer reason said refuses;
}
