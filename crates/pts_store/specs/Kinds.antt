-- Kinds of arrays: each array has values of one kind alone.
use Rattle.std.specs.Prelude.{◌≡◌, ℕ, Some, slice_get}
use Rattle.pts_types.specs.Arithmetic.{IsValueOf}
use Rattle.pts_types.specs.declared.value.Kind.{Kind}
use Rattle.pts_types.specs.declared.value.Value.{Value}
use Rattle.pts_store.specs.Stores.{Store, cells_in}
use Rattle.pts_store.specs.Writes.{Writes, written}

-- every cell of the store holds a value of its array's kind
pub record HasKinds (kinds : ℕ → Kind) (store : Store) : Type 0 where
  pub cell : (array index : ℕ) (value : Value) → slice_get (cells_in store array) index ≡ Some value → IsValueOf (kinds array) value

-- every value that is written is of its array's kind
pub record WritesKinds (kinds : ℕ → Kind) (writes : Writes) : Type 0 where
  pub cell : (array index : ℕ) (value : Value) → written writes array index ≡ Some value → IsValueOf (kinds array) value
