-- One more statement of a run.
use Rattle.std.proofs.Common.{◌≡◌, ℕ, zero, suc, Option, Some, None, ◌+◌, ◌<◌, Bool, true, false, List, [], ◌∷◌, ◌++◌, length, take, drop, get_or, slice_get, refl, sym, ap, subst, ◌∙◌, arith, append-nil, append_assoc, length-append}
use Rattle.std.specs.Prelude.{cond, find, option_map}
use Rattle.std.proofs.lemmas.List.{get_or_default, take-append-drop}
use Rattle.std.proofs.lemmas.Option.{slice_get-get_or}
use Rattle.std.specs.Io.KnownBytes.{Appends}
use Rattle.std.proofs.KnownBytes.{Appends-nil, Appends-trans}
use Rattle.std.proofs.Transfers.{starts_with_of_append}
use Rattle.pts_boards.specs.declared.pool.Pool.{Pool}
use Rattle.pts_program.specs.declared.info.StatementInfo.{StatementInfo}
use Rattle.pts_program.specs.declared.lists.Lists.{Lists}
use Rattle.pts_store.specs.Laws.{SameShape}
use Rattle.pts_store.specs.Stores.{Store, cells_in}
use Rattle.pts_eval.specs.declared.results.RunState.{RunState}
use Rattle.pts_eval.specs.declared.results.RunState.TheVariants as states
use Rattle.pts_eval.specs.Built.{is_later, item_of, first_later}
use Rattle.pts_eval.specs.Cells.{start_store}
use Rattle.pts_eval.specs.Runs.{Answer, Terminated, Run, Performing, nothing, goes_on, terminated, answered, ended}
use Rattle.pts_run.specs.Output.{IsRunText}
use Rattle.pts_run.specs.Writing.{AddsLine, Answers, WritesRun, WritesRunPart}
use Rattle.pts_run.specs.Text.{line_of, text_of}
use Rattle.pts_run.proofs.Texts.{lines_from-push}

-- ---- one statement

-- a statement that was read from a slice of the statements
pub statement_read : (read all : List StatementInfo) (i : ℕ) (d : StatementInfo) → read ≡ all → i < length all → get_or read i d ≡ get_or all i (get_or read i d)
statement_read read all i d same within = ap (λ ss. get_or ss i d) same ∙ get_or_default all i d (get_or read i d) within

-- where no element passes the test, none at a place does
not_first : {A : Type 0} (b : Bool) (x : A) (rest : Option A) → cond b (Some x) rest ≡ None → (b ≡ false) × (rest ≡ None)
not_first true x rest h = absurd (cc)
not_first false x rest h = (refl, h)

none_passes : {A : Type 0} (test : A → Bool) (xs : List A) (i : ℕ) (d : A) → find test xs ≡ None → i < length xs → test (get_or xs i d) ≡ false
none_passes test [] i d none within = absurd (omega (arith, within))
none_passes test (x ∷ xs) zero d none within = (not_first (test x) x (find test xs) none).0
none_passes test (x ∷ xs) (suc i) d none within = none_passes test xs i d (not_first (test x) x (find test xs) none).1 (omega (arith, within))

none_found : {A B : Type 0} (f : A → B) (o : Option A) → option_map f o ≡ None → o ≡ None
none_found f None h = refl
none_found f (Some x) h = absurd (cc)

-- where no statement is later, none at a place is
pub is_built : (lists : Lists) (read : List StatementInfo) (i : ℕ) (d : StatementInfo) → first_later lists ≡ None → read ≡ lists.statements → i < length read → is_later lists (get_or read i d) ≡ false
is_built lists read i d none same within =
    subst (λ (ss : List StatementInfo). is_later lists (get_or ss i d) ≡ false) (sym same)
    (none_passes (is_later lists) lists.statements i d (none_found (item_of lists) (find (is_later lists) lists.statements) none) (omega (arith, within, ap length same)))

-- ---- statements in order

module _ (pool : Pool) (lists : Lists) where
  step : (s : StatementInfo) (ss : List StatementInfo) (before : Store) (a : Answer) (after : Store) (state : RunState) → Answers pool lists s before a after state
      → Performing pool lists (s ∷ ss) before (a ∷ []) after state
  step s ss before a after states.Going p = goes_on after p nothing
  step s ss before a after states.Ended p =
      subst (λ b. Performing pool lists (s ∷ ss) before (b ∷ []) after states.Ended) (sym p.0)
      (subst (λ st. Performing pool lists (s ∷ ss) before (Terminated ∷ []) st states.Ended) (sym p.2) (terminated p.1))

  first : (ss : List StatementInfo) (before : Store) (s : StatementInfo) (a : Answer) (after : Store) (state : RunState) → slice_get ss 0 ≡ Some s → Answers pool lists s before a after state
      → Performing pool lists ss before (a ∷ []) after state
  first [] before s a after state at p = absurd (cc)
  first (t ∷ ts) before s a after state at p = let is : t ≡ s = cc in step t ts before a after state (subst (λ z. Answers pool lists z before a after state) (sym is) p)

  one_more : (ss : List StatementInfo) (before : Store) (answers : List Answer) (between : Store) (s : StatementInfo) (a : Answer) (after : Store) (state : RunState)
      → Performing pool lists ss before answers between states.Going → slice_get ss (length answers) ≡ Some s → Answers pool lists s between a after state
      → Performing pool lists ss before (answers ++ a ∷ []) after state
  one_more ss before _ _ s a after state nothing at p = first ss before s a after state at p
  one_more _ _ _ between s a after state (goes_on {ss = ss} {rest = rest} mid q h) at p = goes_on mid q (one_more ss mid rest between s a after state h at p)

-- so many statements have run, the arrays hold what this store holds, and a sink holds the lines
pub record Written (pool : Pool) (lists : Lists) (count : ℕ) (store : Store) (old new : Option (List ℕ)) : Type 0 where
  pub answers : List Answer
  pub many : length answers ≡ count
  pub performing : Performing pool lists lists.statements (start_store lists) answers store states.Going
  pub appends : Appends old new (text_of answers)

abbrev run_by : List Answer → Store → RunState → Run
run_by answers store state = record { answers = answers; store = store; state = state }

-- the answers with one more
more_answers : (pool : Pool) (lists : Lists) (count : ℕ) (s : StatementInfo) (store : Store) (a : Answer) (after : Store) (state : RunState) (old new : Option (List ℕ))
    → count < length lists.statements → s ≡ get_or lists.statements count s → (w : Written pool lists count store old new) → Answers pool lists s store a after state
    → Performing pool lists lists.statements (start_store lists) (w.answers ++ a ∷ []) after state
more_answers pool lists count s store a after state old new within is w p =
    let at : slice_get lists.statements (length w.answers) ≡ Some s = ap (λ n. slice_get lists.statements n) w.many ∙ slice_get-get_or lists.statements count s within ∙ ap Some (sym is) in
    one_more pool lists lists.statements (start_store lists) w.answers store s a after state w.performing at p

-- and the text that they are
more_text : (answers : List Answer) (count : ℕ) (a : Answer) (line : List ℕ) → length answers ≡ count → line ≡ line_of (count + 1) a → text_of answers ++ line ≡ text_of (answers ++ a ∷ [])
more_text answers count a line many spelled =
    ap (λ l. text_of answers ++ l) spelled ∙ ap (λ n. text_of answers ++ line_of n a) (omega (arith, many)) ∙ sym (lines_from-push 1 answers a)

-- ---- what a sink holds

pub written_none : (pool : Pool) (lists : Lists) (store : Store) (old : Option (List ℕ)) → store ≡ start_store lists → Written pool lists 0 store old old
written_none pool lists store old is = record {
  answers = [];
  many = refl;
  performing = subst (λ st. Performing pool lists lists.statements (start_store lists) [] st states.Going) (sym is) nothing;
  appends = Appends-nil old;
}

pub nothing_written : (pool : Pool) (lists : Lists) (old : Option (List ℕ)) → WritesRunPart pool lists old old
nothing_written pool lists old = record {
  whole = [];
  is_text = record { run = run_by [] (start_store lists) states.Going; permitted = nothing; text_is = refl };
  text = [];
  starts = starts_with_of_append [] [] [] refl;
  appends = Appends-nil old;
}

-- what was written so far is a part
pub part_written : (pool : Pool) (lists : Lists) (count : ℕ) (store : Store) (old new : Option (List ℕ)) → Written pool lists count store old new → WritesRunPart pool lists old new
part_written pool lists count store old new w = record {
  whole = text_of w.answers;
  is_text = record { run = run_by w.answers store states.Going; permitted = w.performing; text_is = refl };
  text = text_of w.answers;
  starts = starts_with_of_append (text_of w.answers) (text_of w.answers) [] (sym (append-nil (text_of w.answers)));
  appends = w.appends;
}

-- where all statements have run, the run is whole
pub all_written : (pool : Pool) (lists : Lists) (count : ℕ) (store : Store) (old new : Option (List ℕ)) → Written pool lists count store old new → count ≡ length lists.statements
    → WritesRun pool lists states.Going old new
all_written pool lists count store old new w all = record {
  text = text_of w.answers;
  is_text = record { run = run_by w.answers store states.Going; permitted = w.performing; whole = answered (w.many ∙ all); ends = refl; text_is = refl };
  appends = w.appends;
}

-- ---- one statement more, whose line is made

module _ (pool : Pool) (lists : Lists) (count : ℕ) (s : StatementInfo) (store after : Store) (state : RunState) (old mid : Option (List ℕ)) (cleared line : List ℕ)
    (within : count < length lists.statements) (is : s ≡ get_or lists.statements count s) (w : Written pool lists count store old mid)
    (empty : cleared ≡ []) (added : AddsLine pool lists s (count + 1) store after state cleared line) where
  spelled : line ≡ line_of (count + 1) added.answer
  spelled = added.text ∙ ap (λ text. text ++ line_of (count + 1) added.answer) empty

  abbrev answers : List Answer
  answers = w.answers ++ added.answer ∷ []

  performing : Performing pool lists lists.statements (start_store lists) answers after state
  performing = more_answers pool lists count s store added.answer after state old mid within is w added.answers

  text_is : text_of w.answers ++ line ≡ text_of answers
  text_is = more_text w.answers count added.answer line w.many spelled

  whole : (new : Option (List ℕ)) → Appends mid new line → Appends old new (text_of answers)
  whole new more = subst (Appends old new) text_is (Appends-trans old mid new (text_of w.answers) line w.appends more)

  pub written_more : (new : Option (List ℕ)) → state ≡ states.Going → Appends mid new line → Written pool lists (count + 1) after old new
  written_more new going more =
      let size = length-append w.answers (added.answer ∷ []) in
      let many = w.many in
      record {
        answers = answers;
        many = omega (arith, size, many);
        performing = subst (Performing pool lists lists.statements (start_store lists) answers after) going performing;
        appends = whole new more;
      }

  -- it has terminated the run
  pub last_written : (new : Option (List ℕ)) → state ≡ states.Ended → Appends mid new line → WritesRun pool lists states.Ended old new
  last_written new over more = record {
    text = text_of answers;
    is_text = record { run = run_by answers after state; permitted = performing; whole = ended over; ends = over; text_is = refl };
    appends = whole new more;
  }

  pub part_with : (new : Option (List ℕ)) → Appends mid new line → WritesRunPart pool lists old new
  part_with new more = record {
    whole = text_of answers;
    is_text = record { run = run_by answers after state; permitted = performing; text_is = refl };
    text = text_of answers;
    starts = starts_with_of_append (text_of answers) (text_of answers) [] (sym (append-nil (text_of answers)));
    appends = whole new more;
  }

  -- a front of the line was written
  pub part_of_line : (n : ℕ) (new : Option (List ℕ)) → Appends mid new (take n line) → WritesRunPart pool lists old new
  part_of_line n new more = record {
    whole = text_of w.answers ++ line;
    is_text = record { run = run_by answers after state; permitted = performing; text_is = text_is };
    text = text_of w.answers ++ take n line;
    starts = starts_with_of_append (text_of w.answers ++ line) (text_of w.answers ++ take n line) (drop n line)
        (ap (λ t. text_of w.answers ++ t) (sym (take-append-drop n line)) ∙ sym (append_assoc (text_of w.answers) (take n line) (drop n line)));
    appends = Appends-trans old mid new (text_of w.answers) (take n line) w.appends more;
  }

-- a store that is another one has its shape
pub same_shape : (start store : Store) → store ≡ start → SameShape start store
same_shape start store is = record { arrays = ap length is; cells = λ array. ap (λ (st : Store). length (cells_in st array)) is }

-- the same line, by what was read of it
pub line_as : {pool : Pool} {lists : Lists} {s : StatementInfo} {number : ℕ} {before after : Store} {state : RunState} {old new line : List ℕ} → line ≡ new
    → AddsLine pool lists s number before after state old new → AddsLine pool lists s number before after state old line
line_as {pool} {lists} {s} {number} {before} {after} {state} {old} e h = subst (λ l. AddsLine pool lists s number before after state old l) (sym e) h
