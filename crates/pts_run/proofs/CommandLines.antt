-- Which settings the words of a run go on by.
use Rattle.std.proofs.Common.{◌≡◌, ◌≢◌, ◌↔◌, ℕ, ◌-◌, ◌<◌, ◌≤◌, ◌^◌, Bool, true, false, List, [], ◌∷◌, ◌++◌, length, map, get_or, take, drop, Some, None, Option, Ok, Err, Result, String, string_bytes, refl, sym, ap, subst, ◌∙◌, inl, inr, arith}
use Rattle.std.specs.Prelude.{◌&&◌, codes, decimal, unwrap_or, IfSome, IsSome}
use Rattle.std.specs.List.{flat_map}
use Rattle.std.specs.Option.{is_none, option_map}
use Rattle.std.specs.Result.{result_ok}
use Rattle.std.specs.Str.{bytes_eq}
use Rattle.std.specs.Str.Parse.{ParsesUnsigned}
use Rattle.std.proofs.lemmas.Bool.{cases_Bool, and_parts, false≢true}
use Rattle.std.proofs.lemmas.Fmt.{decimal_injective, parse-decimal}
use Rattle.std.proofs.lemmas.List.{take_rest}
use Rattle.std.proofs.lemmas.Slice.Eq.{bytes_eq-Decides}
use Rattle.std.proofs.Math.Bridge.{le_prop}
use Rattle.pts_boards.specs.declared.pool.Pool.{Pool}
use Rattle.pts_run.specs.declared.words.Settings.{Settings}
use Rattle.pts_run.specs.declared.words.Command.{Command}
use Rattle.pts_run.specs.declared.words.Command.TheVariants as commands
use Rattle.pts_run.specs.Words.{Setting, Workers, Chunk, words_of, workers_in, chunks_in, IsGiven, IsRun, IsCommand}
use Rattle.pts_run.specs.Settings.{with_setting, given, LeadsTo}

none_is : (o : Option ℕ) → is_none o ≡ true → o ≡ None
none_is None e = refl
none_is (Some n) e = absurd (cc)

-- a number that is given now was not given before, and is the one that counts
once : (before : Option ℕ) (m : ℕ) (rest : List ℕ) (usual n : ℕ) → IsGiven (given before ++ m ∷ rest) usual n → (before ≡ None) × (n ≡ m)
once (Some k) m rest usual n h = absurd h
once None m [] usual n h = (refl, h)
once None m (k ∷ rest) usual n h = absurd h

-- a setting of one of the two names, which was not there before
data Sets (before next : Settings) (name : List ℕ) (n : ℕ) : Type 0 where
  sets_workers : name ≡ codes "--workers" → before.workers ≡ None → next ≡ record { workers = Some n; chunk = before.chunk } → Sets before next name n
  sets_chunk : name ≡ codes "--chunk" → before.chunk ≡ None → next ≡ record { workers = before.workers; chunk = Some n } → Sets before next name n

sets : (before next : Settings) (name : List ℕ) (n : ℕ) → with_setting before name n ≡ Some next → Sets before next name n
sets before next name n e =
    elim (cases_Bool (bytes_eq name (codes "--workers") && is_none before.workers)) [
      | inl both ↦
          let parts = and_parts _ _ both in
          let f = rw both at e in
          sets_workers ((bytes_eq-Decides name (codes "--workers")).0 parts.0) (none_is before.workers parts.1) cc
      | inr other ↦ elim (cases_Bool (bytes_eq name (codes "--chunk") && is_none before.chunk)) [
        | inl both ↦
            let parts = and_parts _ _ both in
            let f = rw (other, both) at e in
            sets_chunk ((bytes_eq-Decides name (codes "--chunk")).0 parts.0) (none_is before.chunk parts.1) cc
        | inr neither ↦ let none = rw (other, neither) at e in absurd (cc)
      ]
    ]

-- ---- words that go on by one setting more

-- the settings behind the first one
with_first : (before next : Settings) (name : List ℕ) (n : ℕ) (after : List (List ℕ)) (pool : Pool) → Sets before next name n → LeadsTo next after pool → LeadsTo before (name ∷ decimal n ∷ after) pool
with_first before next name n after pool (sets_workers named none is) h =
    let workers = rw is at h.workers in
    let chunk = rw is at h.chunk in
    record {
      settings = Workers n ∷ h.settings;
      spelled = rw (named, h.spelled) refl;
      workers = rw none workers;
      chunk = chunk;
    }
with_first before next name n after pool (sets_chunk named none is) h =
    let workers = rw is at h.workers in
    let chunk = rw is at h.chunk in
    record {
      settings = Chunk n ∷ h.settings;
      spelled = rw (named, h.spelled) refl;
      workers = workers;
      chunk = rw none chunk;
    }

-- what is behind the first setting, where the words begin by a name and a number
record Follows (before : Settings) (name number : List ℕ) (after : List (List ℕ)) (pool : Pool) (settings : List Setting) : Type 0 where
  pub m : ℕ
  pub small : m < 2 ^ 32
  pub number_is : number ≡ decimal m
  pub next : Settings
  pub sets_it : with_setting before name m ≡ Some next
  pub leads : LeadsTo next after pool

follows : (before : Settings) (name number : List ℕ) (after : List (List ℕ)) (pool : Pool) (settings : List Setting) → name ∷ number ∷ after ≡ flat_map words_of settings
    → IsGiven (given before.workers ++ workers_in settings) 4 pool.workers → IsGiven (given before.chunk ++ chunks_in settings) 1024 pool.chunk → Follows before name number after pool settings
follows before name number after pool [] e w c = absurd (cc)
follows before name number after pool (Workers m ∷ rest) e w c =
    let first = once before.workers m (workers_in rest) 4 pool.workers w in
    let named : name ≡ codes "--workers" = cc in
    record {
      m = m;
      small = omega (arith, pool.few_workers, first.1);
      number_is = cc;
      next = record { workers = Some m; chunk = before.chunk };
      sets_it = rw (named, first.0) refl;
      leads = record { settings = rest; spelled = cc; workers = rw first.0 at w; chunk = c };
    }
follows before name number after pool (Chunk m ∷ rest) e w c =
    let first = once before.chunk m (chunks_in rest) 1024 pool.chunk c in
    let named : name ≡ codes "--chunk" = cc in
    record {
      m = m;
      small = omega (arith, pool.short_chunk, first.1);
      number_is = cc;
      next = record { workers = before.workers; chunk = Some m };
      sets_it = rw (named, first.0) refl;
      leads = record { settings = rest; spelled = cc; workers = w; chunk = rw first.0 at c };
    }

-- a setting more, and what follows it
pub leads_more : (before next : Settings) (name : List ℕ) (n : ℕ) (after : List (List ℕ)) (pool : Pool) → n < 2 ^ 32 → with_setting before name n ≡ Some next
    → LeadsTo next after pool ↔ LeadsTo before (name ∷ decimal n ∷ after) pool
leads_more before next name n after pool small e = (
  with_first before next name n after pool (sets before next name n e),
  λ h.
      let f = follows before name (decimal n) after pool h.settings h.spelled h.workers h.chunk in
      let same : n ≡ f.m = decimal_injective n f.m (omega (arith, small)) (omega (arith, f.small)) f.number_is in
      let again : with_setting before name n ≡ Some f.next = ap (λ k. with_setting before name k) same ∙ f.sets_it in
      let next_is : f.next ≡ next = cc in
      subst (λ (s : Settings). LeadsTo s after pool) next_is f.leads,
)

-- a name that is no setting's, or one that was there before
pub leads_nowhere : (before : Settings) (name : List ℕ) (n : ℕ) (after : List (List ℕ)) (pool : Pool) → n < 2 ^ 32 → with_setting before name n ≡ None
    → LeadsTo before (name ∷ decimal n ∷ after) pool → ⊥
leads_nowhere before name n after pool small e h =
    let f = follows before name (decimal n) after pool h.settings h.spelled h.workers h.chunk in
    let same : n ≡ f.m = decimal_injective n f.m (omega (arith, small)) (omega (arith, f.small)) f.number_is in
    let again : with_setting before name n ≡ Some f.next = ap (λ k. with_setting before name k) same ∙ f.sets_it in
    cc

-- a second word that is no number
pub leads_by_number : (before : Settings) (name number : List ℕ) (after : List (List ℕ)) (pool : Pool) → ((n : ℕ) → (number ≡ decimal n) × (n < 2 ^ 32) → ⊥)
    → LeadsTo before (name ∷ number ∷ after) pool → ⊥
leads_by_number before name number after pool none h =
    let f = follows before name number after pool h.settings h.spelled h.workers h.chunk in
    none f.m (f.number_is, f.small)

-- one word alone
pub no_single : (before : Settings) (name : List ℕ) (pool : Pool) → LeadsTo before (name ∷ []) pool → ⊥
no_single before name pool h = by_settings h.settings h.spelled
  where
    by_settings : (settings : List Setting) → name ∷ [] ≡ flat_map words_of settings → ⊥
    by_settings [] e = cc
    by_settings (Workers n ∷ rest) e = cc
    by_settings (Chunk n ∷ rest) e = cc

-- ---- no words more

no_settings : (settings : List Setting) → [] ≡ flat_map words_of settings → settings ≡ []
no_settings [] e = refl
no_settings (Workers n ∷ rest) e = absurd (cc)
no_settings (Chunk n ∷ rest) e = absurd (cc)

is_given : (o : Option ℕ) (usual n : ℕ) → n ≡ unwrap_or o usual → IsGiven (given o ++ []) usual n
is_given None usual n e = e
is_given (Some m) usual n e = e

given_is : (o : Option ℕ) (usual n : ℕ) → IsGiven (given o ++ []) usual n → n ≡ unwrap_or o usual
given_is None usual n e = e
given_is (Some m) usual n e = e

pub leads_here : (before : Settings) (pool : Pool) → pool.workers ≡ unwrap_or before.workers 4 → pool.chunk ≡ unwrap_or before.chunk 1024 → LeadsTo before [] pool
leads_here before pool w c = record { settings = []; spelled = refl; workers = is_given before.workers 4 pool.workers w; chunk = is_given before.chunk 1024 pool.chunk c }

pub here_is : (before : Settings) (pool : Pool) → LeadsTo before [] pool → (pool.workers ≡ unwrap_or before.workers 4) × (pool.chunk ≡ unwrap_or before.chunk 1024)
here_is before pool h =
    let none = no_settings h.settings h.spelled in
    let w = rw none at h.workers in
    let c = rw none at h.chunk in
    (given_is before.workers 4 pool.workers w, given_is before.chunk 1024 pool.chunk c)

same_facts : (p : Pool) (a : 1 ≤ p.workers) (b : p.workers ≤ 64) (d : 1 ≤ p.chunk) (e : p.chunk ≤ 65536)
    → p ≡ record { workers = p.workers; chunk = p.chunk; has_worker = a; few_workers = b; has_position = d; short_chunk = e }
same_facts p a b d e =
    ap (λ x. record { workers = p.workers; chunk = p.chunk; has_worker = x; few_workers = p.few_workers; has_position = p.has_position; short_chunk = p.short_chunk }) (le_prop p.has_worker a)
    ∙ ap (λ x. record { workers = p.workers; chunk = p.chunk; has_worker = a; few_workers = x; has_position = p.has_position; short_chunk = p.short_chunk }) (le_prop p.few_workers b)
    ∙ ap (λ x. record { workers = p.workers; chunk = p.chunk; has_worker = a; few_workers = b; has_position = x; short_chunk = p.short_chunk }) (le_prop p.has_position d)
    ∙ ap (λ x. record { workers = p.workers; chunk = p.chunk; has_worker = a; few_workers = b; has_position = d; short_chunk = x }) (le_prop p.short_chunk e)

-- a pool is its two numbers
pub same_pool : (p q : Pool) → p.workers ≡ q.workers → p.chunk ≡ q.chunk → p ≡ q
same_pool p q w c =
    subst (λ (n : ℕ). (a : 1 ≤ n) (b : n ≤ 64) → p ≡ record { workers = n; chunk = q.chunk; has_worker = a; few_workers = b; has_position = q.has_position; short_chunk = q.short_chunk }) w
    (λ a b. subst (λ (m : ℕ). (d : 1 ≤ m) (e : m ≤ 65536) → p ≡ record { workers = p.workers; chunk = m; has_worker = a; few_workers = b; has_position = d; short_chunk = e }) c
    (λ d e. same_facts p a b d e) q.has_position q.short_chunk) q.has_worker q.few_workers

-- ---- all words of a run

pub run_leads : (words : List (List ℕ)) (pool : Pool) → LeadsTo (record { workers = None; chunk = None }) words pool → IsRun (codes "run" ∷ words) pool
run_leads words pool h = record {
  settings = h.settings;
  spelled = ap (λ ws. codes "run" ∷ ws) h.spelled;
  workers = h.workers;
  chunk = h.chunk;
  workers_range = (pool.has_worker, pool.few_workers);
  chunk_range = (pool.has_position, pool.short_chunk);
}

pub run_is : (word : List ℕ) (words : List (List ℕ)) (pool : Pool) → IsRun (word ∷ words) pool → (word ≡ codes "run") × LeadsTo (record { workers = None; chunk = None }) words pool
run_is word words pool h =
    let e = h.spelled in
    (cc, record { settings = h.settings; spelled = cc; workers = h.workers; chunk = h.chunk })

-- the pool that settings make
pub pool_is : (before : Settings) (made : Option Pool) (w c : ℕ) → w ≡ unwrap_or before.workers 4 → c ≡ unwrap_or before.chunk 1024
    → IfSome made (λ pool. (pool.workers ≡ w) × (pool.chunk ≡ c)) → IsSome made ↔ ((1 ≤ w) × (w ≤ 64) × (1 ≤ c) × (c ≤ 65536)) → (pool : Pool) → (made ≡ Some pool) ↔ LeadsTo before [] pool
pool_is before None w c ew ec fields ranges pool = (
  λ e. absurd (cc),
  λ h. let here = here_is before pool h in
      let w_is : pool.workers ≡ w = here.0 ∙ sym ew in
      let c_is : pool.chunk ≡ c = here.1 ∙ sym ec in
      absurd (false≢true (ranges.1 (omega (arith, w_is, pool.has_worker), omega (arith, w_is, pool.few_workers), omega (arith, c_is, pool.has_position), omega (arith, c_is, pool.short_chunk)))),
)
pool_is before (Some p) w c ew ec fields ranges pool = (
  λ e. let same : p ≡ pool = cc in subst (LeadsTo before []) same (leads_here before p (fields.0 ∙ ew) (fields.1 ∙ ec)),
  λ h. let here = here_is before pool h in ap Some (same_pool p pool (fields.0 ∙ ew ∙ sym here.0) (fields.1 ∙ ec ∙ sym here.1)),
)

-- ---- words as the code holds them

first_of_words : {Z : Type 0} (words : List (String Z)) (word : String Z) → 1 ≤ length words → word ≡ get_or words 0 word
    → map string_bytes words ≡ string_bytes word ∷ map string_bytes (take (length words - 1) (drop 1 words))
first_of_words [] word some is = absurd (omega arith)
first_of_words (w ∷ ws) word some is =
    ap (λ t. string_bytes t ∷ map string_bytes ws) (sym is) ∙ ap (λ ts. string_bytes word ∷ map string_bytes ts) (sym (take_rest (w ∷ ws) 1))

two_of_words : {Z : Type 0} (words : List (String Z)) (name number : String Z) → 2 ≤ length words → name ≡ get_or words 0 name → number ≡ get_or words 1 number
    → map string_bytes words ≡ string_bytes name ∷ string_bytes number ∷ map string_bytes (take (length words - 2) (drop 2 words))
two_of_words [] name number some is is2 = absurd (omega arith)
two_of_words (x ∷ []) name number some is is2 = absurd (omega arith)
two_of_words (x ∷ y ∷ ws) name number some is is2 =
    ap (λ t. string_bytes t ∷ string_bytes y ∷ map string_bytes ws) (sym is) ∙ ap (λ t. string_bytes name ∷ string_bytes t ∷ map string_bytes ws) (sym is2)
    ∙ ap (λ ts. string_bytes name ∷ string_bytes number ∷ map string_bytes ts) (sym (take_rest (x ∷ y ∷ ws) 2))

-- what a word spells as a number
abbrev Spells : Option ℕ → List ℕ → Type 0
Spells found text = (n : ℕ) → (found ≡ Some n) ↔ ((text ≡ decimal n) × (n < 2 ^ 32))

-- ---- a number

-- what `parse` gave
parsed_small : {E : Type 0} (word : List ℕ) (r : Result ℕ E) (n : ℕ) → ParsesUnsigned 32 10 word r → Some n ≡ result_ok r → n < 2 ^ 32
parsed_small word (Ok x) n h e = let same : n ≡ x = cc in omega (arith, same, h.1, h.0.1)
parsed_small word (Err e) n h f = absurd (cc)

is_parsed : {E : Type 0} (word : List ℕ) (r : Result ℕ E) (n : ℕ) → ParsesUnsigned 32 10 word r → word ≡ decimal n → n < 2 ^ 32 → r ≡ Ok n
is_parsed word r n h spelled small = parse-decimal 32 n word r (omega (arith, small)) (omega (arith, small)) spelled h

pub spells_number : {E : Type 0} (word : List ℕ) (r : Result ℕ E) (n : ℕ) → ParsesUnsigned 32 10 word r → Some n ≡ result_ok r → word ≡ decimal n → Spells (Some n) word
spells_number word r n h e spelled k = (
  λ f. let same : n ≡ k = cc in (spelled ∙ ap decimal same, rw (← same) (parsed_small word r n h e)),
  λ f. let k_is = is_parsed word r k h f.0 f.1 in e ∙ ap result_ok k_is,
)

pub spells_otherwise : {E : Type 0} (word : List ℕ) (r : Result ℕ E) (n : ℕ) → ParsesUnsigned 32 10 word r → Some n ≡ result_ok r → word ≢ decimal n → Spells None word
spells_otherwise word r n h e other k = (
  λ f. absurd (cc),
  λ f. let k_is = e ∙ ap result_ok (is_parsed word r k h f.0 f.1) in let same : n ≡ k = cc in absurd (other (f.0 ∙ ap decimal (sym same))),
)

pub spells_none : {E : Type 0} (word : List ℕ) (r : Result ℕ E) (found : Option ℕ) → ParsesUnsigned 32 10 word r → None ≡ result_ok r → found ≡ None → Spells found word
spells_none word r found h e none k = (
  λ f. absurd (cc),
  λ f. let k_is = e ∙ ap result_ok (is_parsed word r k h f.0 f.1) in absurd (cc),
)

-- a word that was compared
pub is_word : (same : Bool) (text word other : List ℕ) → same ≡ bytes_eq text other → same ≡ true → text ≡ word → word ≡ other
is_word same text word other e t is = sym is ∙ (bytes_eq-Decides text other).0 (sym e ∙ t)

pub is_other_word : (same : Bool) (text word other : List ℕ) → same ≡ bytes_eq text other → same ≡ false → text ≡ word → word ≢ other
is_other_word same text word other e f is named = false≢true (sym f ∙ e ∙ (bytes_eq-Decides text other).1 (is ∙ named))

-- ---- one setting more, or none

pub leads_on : {Z : Type 0} (words : List (String Z)) (name number : String Z) (before next : Settings) (n : ℕ) (Whole : Pool → Type 0) → 2 ≤ length words → name ≡ get_or words 0 name → number ≡ get_or words 1 number
    → Spells (Some n) (string_bytes number) → with_setting before (string_bytes name) n ≡ Some next → ((pool : Pool) → LeadsTo before (map string_bytes words) pool ↔ Whole pool)
    → (pool : Pool) → LeadsTo next (map string_bytes (take (length words - 2) (drop 2 words))) pool ↔ Whole pool
leads_on words name number before next n Whole some is is2 spells sets_it goes pool =
    let spelled = (spells n).0 refl in
    let after = map string_bytes (take (length words - 2) (drop 2 words)) in
    let words_are : map string_bytes words ≡ string_bytes name ∷ decimal n ∷ after = two_of_words words name number some is is2 ∙ ap (λ t. string_bytes name ∷ t ∷ after) spelled.0 in
    let step = leads_more before next (string_bytes name) n after pool spelled.1 sets_it in
    let here : LeadsTo before (string_bytes name ∷ decimal n ∷ after) pool ↔ Whole pool = subst (λ (ws : List (List ℕ)). LeadsTo before ws pool ↔ Whole pool) words_are (goes pool) in
    (λ h. here.0 (step.0 h), λ w. step.1 (here.1 w))

-- no pool is found, and none is meant
pub none_meant : (made : Option Pool) (before : Settings) (words : List (List ℕ)) (Whole : Pool → Type 0) → made ≡ None → ((pool : Pool) → LeadsTo before words pool → ⊥)
    → ((pool : Pool) → LeadsTo before words pool ↔ Whole pool) → (pool : Pool) → (made ≡ Some pool) ↔ Whole pool
none_meant made before words Whole none never goes pool = (λ e. absurd (cc), λ w. absurd (never pool ((goes pool).1 w)))

pub unknown_setting : {Z : Type 0} (words : List (String Z)) (name number : String Z) (before : Settings) (n : ℕ) → 2 ≤ length words → name ≡ get_or words 0 name → number ≡ get_or words 1 number
    → Spells (Some n) (string_bytes number) → with_setting before (string_bytes name) n ≡ None → (pool : Pool) → LeadsTo before (map string_bytes words) pool → ⊥
unknown_setting words name number before n some is is2 spells none pool h =
    let spelled = (spells n).0 refl in
    let after = map string_bytes (take (length words - 2) (drop 2 words)) in
    let words_are : map string_bytes words ≡ string_bytes name ∷ decimal n ∷ after = two_of_words words name number some is is2 ∙ ap (λ t. string_bytes name ∷ t ∷ after) spelled.0 in
    leads_nowhere before (string_bytes name) n after pool spelled.1 none (subst (λ (ws : List (List ℕ)). LeadsTo before ws pool) words_are h)

pub unknown_number : {Z : Type 0} (words : List (String Z)) (name number : String Z) (before : Settings) → 2 ≤ length words → name ≡ get_or words 0 name → number ≡ get_or words 1 number
    → Spells None (string_bytes number) → (pool : Pool) → LeadsTo before (map string_bytes words) pool → ⊥
unknown_number words name number before some is is2 spells pool h =
    leads_by_number before (string_bytes name) (string_bytes number) (map string_bytes (take (length words - 2) (drop 2 words))) pool (λ n spelled. let e = (spells n).1 spelled in cc)
    (subst (λ (ws : List (List ℕ)). LeadsTo before ws pool) (two_of_words words name number some is is2) h)

pub one_word : {Z : Type 0} (words : List (String Z)) (before : Settings) → length words < 2 → (length words ≡ 0 → ⊥) → (pool : Pool) → LeadsTo before (map string_bytes words) pool → ⊥
one_word [] before few some pool h = some refl
one_word (w ∷ []) before few some pool h = no_single before (string_bytes w) pool h
one_word (w ∷ x ∷ ws) before few some pool h = absurd (omega arith)

pub all_words : {Z : Type 0} (words : List (String Z)) (before : Settings) (made : Option Pool) (Whole : Pool → Type 0) → length words ≡ 0 → ((pool : Pool) → (made ≡ Some pool) ↔ LeadsTo before [] pool)
    → ((pool : Pool) → LeadsTo before (map string_bytes words) pool ↔ Whole pool) → (pool : Pool) → (made ≡ Some pool) ↔ Whole pool
all_words [] before made Whole none makes goes pool = (λ e. (goes pool).0 ((makes pool).0 e), λ w. (makes pool).1 ((goes pool).1 w))
all_words (w ∷ ws) before made Whole none makes goes pool = absurd (omega arith)

-- ---- commands

abbrev no_settings_yet : Settings
no_settings_yet = record { workers = None; chunk = None }

pub run_command : {Z : Type 0} (words : List (String Z)) (word : String Z) (found : Option Pool) (made : Option Command) → 1 ≤ length words → word ≡ get_or words 0 word → string_bytes word ≡ codes "run"
    → ((pool : Pool) → (found ≡ Some pool) ↔ LeadsTo no_settings_yet (map string_bytes (take (length words - 1) (drop 1 words))) pool) → made ≡ option_map commands.Run found
    → (command : Command) → (made ≡ Some command) ↔ IsCommand (map string_bytes words) command
run_command words word found made some is run makes made_is command =
    let rest = map string_bytes (take (length words - 1) (drop 1 words)) in
    let words_are : map string_bytes words ≡ codes "run" ∷ rest = first_of_words words word some is ∙ ap (λ t. t ∷ rest) run in
    rw (words_are, made_is) (by_command rest found makes command)
  where
    by_command : (rest : List (List ℕ)) (o : Option Pool) → ((pool : Pool) → (o ≡ Some pool) ↔ LeadsTo no_settings_yet rest pool) → (c : Command) → (option_map commands.Run o ≡ Some c) ↔ IsCommand (codes "run" ∷ rest) c
    by_command rest None f (commands.Run pool) = (λ e. absurd (cc), λ h. let e = (f pool).1 (run_is (codes "run") rest pool h).1 in absurd (cc))
    by_command rest (Some p) f (commands.Run pool) = (
      λ e. let same : Some p ≡ Some pool = cc in run_leads rest pool ((f pool).0 same),
      λ h. ap (option_map commands.Run) ((f pool).1 (run_is (codes "run") rest pool h).1),
    )
    by_command rest None f commands.Check = (λ e. absurd (cc), λ e. absurd (cc))
    by_command rest (Some p) f commands.Check = (λ e. absurd (cc), λ e. absurd (cc))
    by_command rest None f commands.Print = (λ e. absurd (cc), λ e. absurd (cc))
    by_command rest (Some p) f commands.Print = (λ e. absurd (cc), λ e. absurd (cc))

pub check_command : {Z : Type 0} (words : List (String Z)) (word : String Z) → length words ≡ 1 → word ≡ get_or words 0 word → string_bytes word ≡ codes "check"
    → (command : Command) → (Some commands.Check ≡ Some command) ↔ IsCommand (map string_bytes words) command
check_command [] word one is check command = absurd (omega arith)
check_command (x ∷ y ∷ ws) word one is check command = absurd (omega arith)
check_command (x ∷ []) word one is check (commands.Run pool) =
    let x_is : string_bytes x ≡ codes "check" = ap string_bytes (sym is) ∙ check in
    (λ e. absurd (cc), λ h. let run = (run_is (string_bytes x) [] pool h).0 in absurd (cc))
check_command (x ∷ []) word one is check commands.Print =
    let x_is : string_bytes x ≡ codes "check" = ap string_bytes (sym is) ∙ check in
    (λ e. absurd (cc), λ h. let e : 99 ≡ 112 = ap (λ (text : List ℕ). get_or text 0 0) (sym x_is ∙ ap (λ (ws : List (List ℕ)). get_or ws 0 []) h) in absurd (omega (arith, e)))
check_command (x ∷ []) word one is check commands.Check =
    let x_is : string_bytes x ≡ codes "check" = ap string_bytes (sym is) ∙ check in
    (λ e. ap (λ t. t ∷ []) x_is, λ h. refl)

pub print_command : {Z : Type 0} (words : List (String Z)) (word : String Z) → length words ≡ 1 → word ≡ get_or words 0 word → string_bytes word ≡ codes "print"
    → (command : Command) → (Some commands.Print ≡ Some command) ↔ IsCommand (map string_bytes words) command
print_command [] word one is print command = absurd (omega arith)
print_command (x ∷ y ∷ ws) word one is print command = absurd (omega arith)
print_command (x ∷ []) word one is print (commands.Run pool) =
    let x_is : string_bytes x ≡ codes "print" = ap string_bytes (sym is) ∙ print in
    (λ e. absurd (cc), λ h. let run = (run_is (string_bytes x) [] pool h).0 in absurd (cc))
print_command (x ∷ []) word one is print commands.Check =
    let x_is : string_bytes x ≡ codes "print" = ap string_bytes (sym is) ∙ print in
    (λ e. absurd (cc), λ h. let e : 112 ≡ 99 = ap (λ (text : List ℕ). get_or text 0 0) (sym x_is ∙ ap (λ (ws : List (List ℕ)). get_or ws 0 []) h) in absurd (omega (arith, e)))
print_command (x ∷ []) word one is print commands.Print =
    let x_is : string_bytes x ≡ codes "print" = ap string_bytes (sym is) ∙ print in
    (λ e. ap (λ t. t ∷ []) x_is, λ h. refl)

-- one word
pub single : {A : Type 0} (words : List A) → 1 ≤ length words → length (take (length words - 1) (drop 1 words)) ≡ 0 → length words ≡ 1
single [] some h = absurd (omega arith)
single (w ∷ ws) some h = omega (arith, h, ap length (take_rest (w ∷ ws) 1))
