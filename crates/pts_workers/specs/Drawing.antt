-- One worker, before it draws and after.
use Rattle.std.specs.Prelude.{◌≡◌, ℕ, ◌+◌, ◌≤◌, true, false, List, [], All, length, vec_capacity, vec_len}
use Rattle.std.specs.List.{flat_map}
use Rattle.std.specs.List.Sorted.{IsStrictlyIncreasing}
use Rattle.atomic_table.specs.Seated.{TableId}
use Rattle.pts_boards.specs.Seats.{ClaimSeatState}
use Rattle.pts_workers.specs.declared.shares.Shares.{Shares}
use Rattle.pts_workers.specs.declared.worker.Desks.{Desks}
use Rattle.pts_workers.specs.declared.worker.Worker.{Worker}
use Rattle.pts_workers.specs.Shares.{EachMade}

-- the desks of so many workers that drew nothing
pub record AreReady (board : TableId) (chunks workers : ℕ) (desks : Desks) : Type 0 where
  pub board_is : desks.seat.board ≡ board
  pub weight : desks.seat.weight ≡ workers
  pub left : desks.seat.past ≡ false
  pub none_drawn : desks.seat.drawn ≡ []
  pub lists : vec_len desks.lists ≡ workers
  pub room : All (λ list. (list.items ≡ []) × (chunks ≤ vec_capacity list)) desks.lists.items

module _ {S : Type 0} (Made : List ℕ → S → Type 0) where
  -- a worker that drew nothing, with room for so many chunks
  pub record IsReady (board : TableId) (chunks : ℕ) (worker : Worker S) : Type 0 where
    pub board_is : worker.seat.board ≡ board
    pub weight : worker.seat.weight ≡ 1
    pub left : worker.seat.past ≡ false
    pub going : worker.is_cut_short ≡ false
    pub none_drawn : worker.seat.drawn ≡ []
    pub none_listed : worker.numbers.items ≡ []
    pub room : chunks ≤ vec_capacity worker.numbers
    pub made : Made [] worker.state

  -- a worker that drew until no chunk was left
  pub record IsDone (worker : Worker S) : Type 0 where
    pub past : worker.seat.past ≡ true
    pub listed : worker.numbers.items ≡ worker.seat.drawn
    pub ascends : IsStrictlyIncreasing worker.numbers.items
    pub made : Made worker.numbers.items worker.state

  -- a worker after its draws, which it ends early only for want of memory
  pub record HasDrawn (board : TableId) (worker : Worker S) : Type 0 where
    pub board_is : worker.seat.board ≡ board
    pub weight : worker.seat.weight ≡ 1
    pub done : worker.is_cut_short ≡ false → IsDone worker

  -- what so many workers leave that drew these chunks, one worker's after another's
  pub record Holds (drawn : List ℕ) (workers : ℕ) (shares : Shares S) : Type 0 where
    pub all_drawn : flat_map (λ group. group) shares.grouping.groups ≡ drawn
    pub none_empty : All (λ group. 1 ≤ length group) shares.grouping.groups
    pub ascending : All IsStrictlyIncreasing shares.grouping.groups
    pub made : EachMade Made shares.grouping.groups shares.states
    pub idle : All (Made []) shares.idle
    pub count : length shares.grouping.groups + length shares.idle ≡ workers

  -- what so many workers leave: one seat with all their weight, past the last chunk, and their shares of what it drew
  pub record Leaves (board : TableId) (workers : ℕ) (seat : ClaimSeatState) (shares : Shares S) : Type 0 where
    pub board_is : seat.board ≡ board
    pub weight : seat.weight ≡ workers
    pub past : seat.past ≡ true
    pub holds : Holds seat.drawn workers shares
