-- What the seats of a board know together, and the rule that all boards keep.
use Rattle.std.specs.Prelude.{◌≡◌, ℕ, ◌+◌, ◌≤◌, ◌<◌, ◌^◌, Bool, false, ◌||◌, List, [], ◌∷◌, cond}
use mathlib.Core.Option.{some}
use lib.ListN.{get_elem?}
use Rattle.atomic_table.specs.Table.{State}
use Rattle.pts_boards.specs.declared.board.Hand.{Hand}
use Rattle.pts_boards.specs.declared.board.Terms.{Terms}

-- the sum of f over the views
abbrev pub total : {V : Type 0} → (V → ℕ) → List V → ℕ
total f [] = 0
total f (v ∷ vs) = f v + total f vs

-- a seat with this weight that knows k
abbrev pub hand : {K : Type 0} → ℕ → K → Hand K
hand weight k = record { weight = weight; known = k }

-- What the seats of one sort of board know: a spent seat, a new one and a joined one; what is counted in it; the mark; what the word and all counts
-- have to be, given the weight that is marked; and what one seat knows of them
pub record Sort (K : Type 0) : Type 1 where
  pub nothing : K
  pub passed : K → K
  pub merged : K → K → K
  pub count : ℕ → K → ℕ
  pub is_marked : K → Bool
  pub Agrees : Terms → ℕ → (ℕ → ℕ) → ℕ → Type 0
  pub Fits : Terms → ℕ → (ℕ → ℕ) → K → Type 0

module _ {K : Type 0} (sort : Sort K) where
  -- the weight of a seat that has the mark
  abbrev pub marked : ℕ → K → ℕ
  marked weight k = cond (sort.is_marked k) weight 0

  -- the weight of a seat that does not
  abbrev pub unmarked : ℕ → K → ℕ
  unmarked weight k = cond (sort.is_marked k) 0 weight

  -- how often x is counted in all views
  abbrev pub counts : List (Hand K) → ℕ → ℕ
  counts views x = total (λ v. sort.count x v.known) views

  -- the weight of all views that have the mark
  abbrev pub marks : List (Hand K) → ℕ
  marks views = total (λ v. marked v.weight v.known) views

  -- What a sort owes: a split and a join count nothing twice and lose nothing, keep the mark, and keep what a seat knows
  pub record IsLawful : Type 0 where
    pub count_nothing : (x : ℕ) → sort.count x sort.nothing ≡ 0
    pub count_passed : (x : ℕ) (k : K) → sort.count x (sort.passed k) ≡ 0
    pub count_merged : (x : ℕ) (a b : K) → sort.count x (sort.merged a b) ≡ sort.count x a + sort.count x b
    pub mark_nothing : sort.is_marked sort.nothing ≡ false
    pub mark_passed : (k : K) → sort.is_marked (sort.passed k) ≡ sort.is_marked k
    pub mark_merged : (a b : K) → sort.is_marked (sort.merged a b) ≡ (sort.is_marked a || sort.is_marked b)
    pub agrees_more : (terms : Terms) (word : ℕ) (counted : ℕ → ℕ) (m n : ℕ) → sort.Agrees terms word counted m → m ≤ n → sort.Agrees terms word counted n
    pub fits_nothing : (terms : Terms) (word : ℕ) (counted : ℕ → ℕ) (m : ℕ) → sort.Agrees terms word counted m → sort.Fits terms word counted sort.nothing
    pub fits_passed : (terms : Terms) (word : ℕ) (counted : ℕ → ℕ) (k : K) → sort.Fits terms word counted k → sort.Fits terms word counted (sort.passed k)
    pub fits_merged : (terms : Terms) (word : ℕ) (counted : ℕ → ℕ) (a b : K) → sort.Fits terms word counted a → sort.Fits terms word counted b → sort.Fits terms word counted (sort.merged a b)

  -- The rule: the weights add up to the shares, a view without weight knows nothing, and the word agrees with all counts and with each view
  pub record Kept {S : Type 0} (terms : Terms) (s : State S (Hand K)) : Type 0 where
    pub word : ℕ
    pub words : s.words ≡ word ∷ []
    pub weights : total (λ v. v.weight) s.views ≡ terms.shares
    pub spent : (id : ℕ) (v : Hand K) → get_elem? s.views id ≡ some v → v.weight ≡ 0 → v.known ≡ sort.nothing
    pub agrees : sort.Agrees terms word (counts s.views) (marks s.views)
    pub fits : (id : ℕ) (v : Hand K) → get_elem? s.views id ≡ some v → sort.Fits terms word (counts s.views) v.known

  -- What a seat can tell of the table between two steps: the rule, and that it is one of the views
  pub record IsPartOf (terms : Terms) (weight : ℕ) (k : K) (word : ℕ) (counted : ℕ → ℕ) (mark : ℕ) : Type 0 where
    pub some : 1 ≤ weight
    pub small : word < 2 ^ 64
    pub agrees : sort.Agrees terms word counted mark
    pub fits : sort.Fits terms word counted k
    pub held : (x : ℕ) → sort.count x k ≤ counted x
    pub room : mark + unmarked weight k ≤ terms.shares
    pub whole : weight ≡ terms.shares → (x : ℕ) → counted x ≡ sort.count x k

  -- what is counted and marked once a seat knows l in place of k
  pub record IsChanged (terms : Terms) (weight : ℕ) (k l : K) (counted : ℕ → ℕ) (mark : ℕ) (counted' : ℕ → ℕ) (mark' : ℕ) : Type 0 where
    pub counted_is : (x : ℕ) → counted' x + sort.count x k ≡ counted x + sort.count x l
    pub mark_is : mark' + marked weight k ≡ mark + marked weight l

  -- The word may become `next`: the seat then knows some l in place of k, of which `then` holds, and the rest of the rule stays
  abbrev pub Leads : Terms → ℕ → K → ℕ → (ℕ → ℕ) → ℕ → ℕ → (K → Type 0) → Type 0
  Leads terms weight k word counted mark next then = (l : K)
      × ((counted' : ℕ → ℕ) (mark' : ℕ) → IsChanged terms weight k l counted mark counted' mark' → sort.Agrees terms next counted' mark'
      × sort.Fits terms next counted' l
      × ((other : K) → sort.Fits terms word counted other → sort.Fits terms next counted' other))
      × then l

  -- whatever the word is, it may become `next` of that, and the step tells `then`
  abbrev pub Moves : Terms → ℕ → K → (ℕ → ℕ) → (ℕ → K → Type 0) → Type 0
  Moves terms weight k next then = (word : ℕ) (counted : ℕ → ℕ) (mark : ℕ) → IsPartOf terms weight k word counted mark → Leads terms weight k word counted mark (next word) (then word)

  -- What holds at the end, where a seat with the whole weight knows k: all that was counted is in it
  abbrev pub Ends : Terms → K → ℕ → Type 0
  Ends terms k word = ((mark : ℕ) × sort.Agrees terms word (λ x. sort.count x k) mark) × sort.Fits terms word (λ x. sort.count x k) k
