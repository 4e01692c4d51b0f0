-- The words of the command line, and which command they are.
use Rattle.std.specs.Prelude.{◌≡◌, ◌≤◌, ℕ, List, [], ◌∷◌, codes, decimal}
use Rattle.std.specs.List.{flat_map}
use Rattle.pts_boards.specs.declared.pool.Pool.{Pool}
use Rattle.pts_run.specs.declared.words.Command.{Command}
use Rattle.pts_run.specs.declared.words.Command.TheVariants as commands

-- an option of `run` and its number
pub data Setting : Type 0 where
  Workers : ℕ → Setting
  Chunk : ℕ → Setting

-- the words of a setting; its number has no sign and no leading zero
abbrev pub words_of : Setting → List (List ℕ)
words_of (Workers n) = codes "--workers" ∷ decimal n ∷ []
words_of (Chunk n) = codes "--chunk" ∷ decimal n ∷ []

-- the numbers of workers among settings
abbrev pub workers_in : List Setting → List ℕ
workers_in [] = []
workers_in (Workers n ∷ rest) = n ∷ workers_in rest
workers_in (Chunk n ∷ rest) = workers_in rest

-- the chunk lengths among settings
abbrev pub chunks_in : List Setting → List ℕ
chunks_in [] = []
chunks_in (Workers n ∷ rest) = chunks_in rest
chunks_in (Chunk n ∷ rest) = n ∷ chunks_in rest

-- the number that is given, at most once, or else the usual one
abbrev pub IsGiven : List ℕ → ℕ → ℕ → Type 0
IsGiven [] usual n = n ≡ usual
IsGiven (m ∷ []) usual n = n ≡ m
IsGiven (m ∷ k ∷ rest) usual n = ⊥

-- the words are `run` and settings in any order, which make this pool
pub record IsRun (words : List (List ℕ)) (pool : Pool) : Type 0 where
  pub settings : List Setting
  pub spelled : words ≡ codes "run" ∷ flat_map words_of settings
  pub workers : IsGiven (workers_in settings) 4 pool.workers
  pub chunk : IsGiven (chunks_in settings) 1024 pool.chunk
  pub workers_range : (1 ≤ pool.workers) × (pool.workers ≤ 64)
  pub chunk_range : (1 ≤ pool.chunk) × (pool.chunk ≤ 65536)

-- the words are this command
abbrev pub IsCommand : List (List ℕ) → Command → Type 0
IsCommand words (commands.Run pool) = IsRun words pool
IsCommand words commands.Check = words ≡ codes "check" ∷ []
IsCommand words commands.Print = words ≡ codes "print" ∷ []
