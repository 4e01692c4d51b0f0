-- Positions cut into chunks, and chunks shared out to groups.
use Rattle.std.specs.Prelude.{◌≡◌, ℕ, zero, suc, ◌+◌, ◌*◌, ◌≤◌, List, [], ◌∷◌, All, cond, eqb, ltb, length, take, drop}
use Rattle.std.specs.Int.{div_ceil}
use Rattle.std.specs.List.{flat_map, range_with_len}
use Rattle.std.specs.List.Sorted.{IsStrictlyIncreasing}
use Rattle.pts_types.specs.declared.operation.Policy.{Policy}
use Rattle.pts_types.specs.declared.operation.Policy.TheVariants.{Par, ParUnseq}

-- how many chunks n positions are cut into
abbrev pub chunk_count : ℕ → ℕ → ℕ
chunk_count n size = div_ceil n size

-- what a list has at the positions of chunk c; the last chunk may be shorter
abbrev pub chunk : {A : Type 0} → ℕ → List A → ℕ → List A
chunk size items c = take size (drop (c * size) items)

-- how often x stands in the list
abbrev pub times : ℕ → List ℕ → ℕ
times x [] = 0
times x (y ∷ ys) = cond (eqb x y) 1 0 + times x ys

-- lists of chunk numbers, at most one a worker: each chunk stands once, no list is empty, and each ascends
pub record IsGrouping (workers chunks : ℕ) (groups : List (List ℕ)) : Type 0 where
  pub each_once : (c : ℕ) → times c (flat_map (λ group. group) groups) ≡ cond (ltb c chunks) 1 0
  pub none_empty : All (λ group. 1 ≤ length group) groups
  pub few : length groups ≤ workers
  pub ascending : All IsStrictlyIncreasing groups

-- how many workers share the chunks of a call under a policy
abbrev pub sharing : Policy → ℕ → ℕ
sharing Par workers = workers
sharing ParUnseq workers = workers
sharing policy workers = 1

-- the grouping of one worker: one group of all chunks in order, or none where there are no chunks
abbrev pub single_group : ℕ → List (List ℕ)
single_group zero = []
single_group (suc chunks) = range_with_len 0 (suc chunks) ∷ []
