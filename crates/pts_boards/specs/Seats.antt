-- What a contract sees of a board and of a seat at it.
use Rattle.std.specs.Prelude.{ℕ, Bool, List, refl}
use Rattle.std.specs.Coded.{Coded, code_by, coded×, coded_ℕ}
use Rattle.atomic_table.specs.Seated.{TableId, table_id_coded}

-- which board it is, how many parts it has, and the weight of all its seats
pub record ClaimsState : Type 0 where
  pub id : TableId
  pub parts : ℕ
  pub shares : ℕ

-- the board that the seat is of, its weight, the numbers that it drew, in order, and whether it is past the end
pub record ClaimSeatState : Type 0 where
  pub board : TableId
  pub weight : ℕ
  pub drawn : List ℕ
  pub past : Bool

-- which board it is, and the weight of all its seats
pub record BoardState : Type 0 where
  pub id : TableId
  pub shares : ℕ

-- the board that the seat is of, its weight, how often it raised, whether it or a seat that it was cut from or took in has raised, and whether one of them saw a raise
pub record AlarmSeatState : Type 0 where
  pub board : TableId
  pub weight : ℕ
  pub raises : ℕ
  pub raised : Bool
  pub seen : Bool

-- the board that the seat is of, its weight, the numbers that it lowered, and the least answer of `now`
pub record LeastSeatState : Type 0 where
  pub board : TableId
  pub weight : ℕ
  pub lowered : List ℕ
  pub least : ℕ

-- the board that a seat of any sort is of, its weight, and what it knows
pub record ChairState (K : Type 0) : Type 0 where
  pub board : TableId
  pub weight : ℕ
  pub known : K

-- such a seat is stored as its fields, one after another
abbrev pub chair_code : {K : Type 0} → Coded K → Coded (ChairState K)
chair_code {K} code = code_by (TableId × (ℕ × K)) (coded× table_id_coded (coded× coded_ℕ code)) (λ s. (s.board, (s.weight, s.known))) (λ p. record { board = p.0; weight = p.1.0; known = p.1.1 }) (λ _. refl)
