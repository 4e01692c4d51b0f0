-- Reading the settings of a run word by word.
use Rattle.std.specs.Prelude.{◌≡◌, ◌++◌, ◌&&◌, if◌then◌else◌, ℕ, List, [], ◌∷◌, Option, Some, None, is_none, codes}
use Rattle.std.specs.List.{flat_map}
use Rattle.std.specs.Str.{bytes_eq}
use Rattle.pts_boards.specs.declared.pool.Pool.{Pool}
use Rattle.pts_run.specs.declared.words.Settings.{Settings}
use Rattle.pts_run.specs.Words.{Setting, words_of, workers_in, chunks_in, IsGiven}

-- the settings with this one, where its name is one of the two and it was not there before
abbrev pub with_setting : Settings → List ℕ → ℕ → Option Settings
with_setting before name n =
    if bytes_eq name (codes "--workers") && is_none before.workers then Some (record { workers = Some n; chunk = before.chunk })
    else (if bytes_eq name (codes "--chunk") && is_none before.chunk then Some (record { workers = before.workers; chunk = Some n }) else None)

-- a number that may be there, as a list
abbrev pub given : Option ℕ → List ℕ
given None = []
given (Some n) = n ∷ []

-- these words go on by settings that make this pool with those before
pub record LeadsTo (before : Settings) (words : List (List ℕ)) (pool : Pool) : Type 0 where
  pub settings : List Setting
  pub spelled : words ≡ flat_map words_of settings
  pub workers : IsGiven (given before.workers ++ workers_in settings) 4 pool.workers
  pub chunk : IsGiven (given before.chunk ++ chunks_in settings) 1024 pool.chunk
