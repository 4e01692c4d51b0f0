-- The one group of all chunks.
use Rattle.std.proofs.Common.{◌≡◌, ℕ, zero, suc, ◌+◌, ◌<◌, ◌≤◌, List, [], ◌∷◌, ◌++◌, refl, sym, ap, subst, ◌∙◌, arith}
use Rattle.std.specs.List.{range_with_len}
use Rattle.pts_types.specs.declared.operation.Policy.{Policy}
use Rattle.pts_types.specs.declared.operation.Policy.TheVariants as policies
use Rattle.pts_groupings.specs.Chunks.{sharing, single_group, IsGrouping}
use Rattle.pts_groupings.proofs.Single.{single_is_grouping}

pub no_chunks : (chunks : ℕ) → chunks ≤ 0 → single_group chunks ≡ []
no_chunks zero l = refl
no_chunks (suc n) l = absurd (omega arith)

pub some_chunks : (chunks : ℕ) → 0 < chunks → single_group chunks ≡ range_with_len 0 chunks ∷ []
some_chunks zero l = absurd (omega arith)
some_chunks (suc n) l = refl

counted : (a n : ℕ) → range_with_len a (suc n) ≡ range_with_len a n ++ (a + n) ∷ []
counted a zero = ap (λ k. k ∷ []) (let e : a ≡ a + zero = omega arith in e)
counted a (suc n) = ap (λ l. a ∷ l) (counted (a + 1) n ∙ ap (λ k. range_with_len (a + 1) n ++ k ∷ []) (let e : (a + 1) + n ≡ a + suc n = omega arith in e))

-- one number more
pub number_more : (n : ℕ) → range_with_len 0 (n + 1) ≡ range_with_len 0 n ++ n ∷ []
number_more n = ap (range_with_len 0) (let e : n + 1 ≡ suc n = omega arith in e) ∙ counted 0 n ∙ ap (λ k. range_with_len 0 n ++ k ∷ []) (let e : 0 + n ≡ n = omega arith in e)

sharing_some : (policy : Policy) (workers : ℕ) → 1 ≤ workers → 1 ≤ sharing policy workers
sharing_some policies.Par workers l = l
sharing_some policies.ParUnseq workers l = l
sharing_some policies.Seq workers l = omega arith
sharing_some policies.Unseq workers l = omega arith
sharing_some policies.Vector workers l = omega arith

-- the one group is a grouping, under each policy
pub single_fits : (policy : Policy) (workers chunks : ℕ) (groups : List (List ℕ)) → 1 ≤ workers → groups ≡ single_group chunks → IsGrouping (sharing policy workers) chunks groups
single_fits policy workers chunks groups l e =
    subst (IsGrouping (sharing policy workers) chunks) (sym e) (single_is_grouping (sharing policy workers) chunks (sharing_some policy workers l))
