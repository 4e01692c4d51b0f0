-- The names of a loop's head.
use Rattle.std.proofs.Common.{◌≡◌, ℕ, ◌+◌, ◌<◌, ◌≤◌, List, [], ◌∷◌, ◌++◌, length, get_or, drop, drop-cons, add-one, fold, refl, sym, ap, subst, ◌∙◌, append_assoc}
use Rattle.std.specs.Prelude.{flat_map}
use Rattle.std.proofs.lemmas.List.{drop_all, length_push}
use Rattle.pts_types.specs.declared.value.Kind.TheVariants as kinds
use Rattle.pts_tree.specs.declared.loops.Loop as loops
use Rattle.pts_tree.specs.declared.loops.Clause.{Clause}
use Rattle.pts_tree.specs.declared.loops.Clause.TheVariants as clauses
use Rattle.pts_rules.specs.declared.meaning.Meaning.TheVariants.{Value}
use Rattle.pts_rules.specs.Known.{Scope}
use Rattle.pts_rules.specs.Mistyped.{clause_entries}
use Rattle.pts_code.specs.declared.compiling.Spot.{Spot}
use Rattle.pts_code.specs.declared.compiling.Spot.TheVariants as places
use Rattle.pts_points.proofs.Builds.{append_nothing}
use Rattle.pts_steps.specs.declared.builder.Builder.{Builder}
use Rattle.pts_steps.specs.Building.{with_head, head_spots, heads_entered, with_clause, IsAtGlobals, Stands, IsAbove}
use Rattle.pts_steps.specs.Positions.{Head, clause_heads, heads}

abbrev with_clause_kinds : Scope → Scope → Clause → Scope
with_clause_kinds globals scope c = clause_entries globals c ++ scope

abbrev of_clauses : List Clause → List Head
of_clauses cs = flat_map clause_heads cs

-- what clauses declare, all at once
abbrev pub all_entered : Builder → List Clause → Builder
all_entered b cs =
    record b {
      kinds = fold (with_clause_kinds b.globals) b.kinds cs;
      names = fold with_head b.names (of_clauses cs);
      spots = b.spots ++ head_spots (length b.spots) (of_clauses cs);
    }

spots_reduce : (spots : List Spot) (hs : List Head) → (spots ++ []) ++ head_spots (length (spots ++ [])) hs ≡ spots ++ head_spots (length spots) hs
spots_reduce spots hs = ap (λ s. s ++ head_spots (length s) hs) (append_nothing spots)

spots_induct : (spots : List Spot) (h : Head) (hs : List Head)
    → (spots ++ places.Local (length spots) ∷ []) ++ head_spots (length (spots ++ places.Local (length spots) ∷ [])) hs ≡ spots ++ head_spots (length spots) (h ∷ hs)
spots_induct spots h hs =
    let own = places.Local (length spots) in
    ap (λ n. (spots ++ own ∷ []) ++ head_spots n hs) (length_push spots own) ∙ append_assoc spots (own ∷ []) (head_spots (length spots + 1) hs)

pub clauses_entered : (b : Builder) (cs : List Clause) → fold with_clause b cs ≡ all_entered b cs
clauses_entered b [] = λ i. record b { spots = sym (append_nothing b.spots) i }
clauses_entered b (clauses.Reduce c ∷ cs) =
    clauses_entered (with_clause b (clauses.Reduce c)) cs
    ∙ (λ i. record (all_entered b (clauses.Reduce c ∷ cs)) { spots = spots_reduce b.spots (of_clauses cs) i })
clauses_entered b (clauses.Induct c ∷ cs) =
    clauses_entered (with_clause b (clauses.Induct c)) cs
    ∙ (λ i. record (all_entered b (clauses.Induct c ∷ cs)) { spots = spots_induct b.spots (c.name, c.kind) (of_clauses cs) i })

-- ---- above

-- a scope with more in front
pub record More (new old : Scope) : Type 0 where
  pub more : Scope
  pub is : new ≡ more ++ old

more_heads : (scope : Scope) (hs : List Head) → More (fold with_head scope hs) scope
more_heads scope [] = record { more = []; is = refl }
more_heads scope (h ∷ hs) =
    let rest = more_heads (with_head scope h) hs in
    record { more = rest.more ++ (h.0, Value h.1) ∷ []; is = rest.is ∙ sym (append_assoc rest.more ((h.0, Value h.1) ∷ []) scope) }

more_clauses : (globals scope : Scope) (cs : List Clause) → More (fold (with_clause_kinds globals) scope cs) scope
more_clauses globals scope [] = record { more = []; is = refl }
more_clauses globals scope (c ∷ cs) =
    let rest = more_clauses globals (with_clause_kinds globals scope c) cs in
    record { more = rest.more ++ clause_entries globals c; is = rest.is ∙ sym (append_assoc rest.more (clause_entries globals c) scope) }

-- ---- the head of a loop

module _ (x : loops.Loop) (a b c d : Builder) (s : IsAtGlobals a) (first : b ≡ heads_entered a ((x.index, kinds.I64) ∷ []))
    (second : c ≡ fold with_clause b x.clauses) (third : d ≡ record c { kinds = (x.index, Value kinds.I64) ∷ c.kinds }) where
  abbrev entered : Builder
  entered = let e = all_entered (heads_entered a ((x.index, kinds.I64) ∷ [])) x.clauses in record e { kinds = (x.index, Value kinds.I64) ∷ e.kinds }

  pub loop_entered : d ≡ entered
  loop_entered =
      third
      ∙ ap (λ (z : Builder). record z { kinds = (x.index, Value kinds.I64) ∷ z.kinds })
      (second ∙ ap (λ z. fold with_clause z x.clauses) first ∙ clauses_entered (heads_entered a ((x.index, kinds.I64) ∷ [])) x.clauses)

  pub head_same : (d.globals ≡ a.globals) × (d.steps ≡ a.steps)
  head_same = (ap (λ z. z.globals) loop_entered, ap (λ z. z.steps) loop_entered)

  abbrev index_spots : List Spot → List Spot
  index_spots spots = let now = spots ++ head_spots (length spots) ((x.index, kinds.I64) ∷ []) in now ++ head_spots (length now) (of_clauses x.clauses)

  stands_entered : Stands x entered []
  stands_entered =
      record {
        free = s.free;
        kinds = λ i. (x.index, Value kinds.I64) ∷ fold (with_clause_kinds a.globals) (s.kinds i) x.clauses;
        names = λ i. fold with_head (with_head (s.names i) (x.index, kinds.I64)) (of_clauses x.clauses);
        spots = ap index_spots s.spots ∙ sym (append_nothing (head_spots 0 (heads x)));
      }

  pub head_stands : Stands x d []
  head_stands = subst (λ z. Stands x z []) (sym loop_entered) stands_entered

  above_entered : IsAbove a entered
  above_entered =
      let kinds_above = more_clauses a.globals a.kinds x.clauses in
      let names_above = more_heads a.names ((x.index, kinds.I64) ∷ of_clauses x.clauses) in
      let own = head_spots (length a.spots) ((x.index, kinds.I64) ∷ []) in
      let now = a.spots ++ own in
      record {
        kinds_more = (x.index, Value kinds.I64) ∷ kinds_above.more;
        names_more = names_above.more;
        spots_more = own ++ head_spots (length now) (of_clauses x.clauses);
        kinds = ap (λ z. (x.index, Value kinds.I64) ∷ z) kinds_above.is;
        names = names_above.is;
        spots = append_assoc a.spots own (head_spots (length now) (of_clauses x.clauses));
      }

  pub head_above : IsAbove a d
  head_above = subst (IsAbove a) (sym loop_entered) above_entered

-- ---- clause by clause

pub clause_more : (b : Builder) (cs : List Clause) (at : ℕ) (c : Clause) → at < length cs → c ≡ get_or cs at c
    → fold with_clause (with_clause b c) (drop (at + 1) cs) ≡ fold with_clause b (drop at cs)
clause_more b cs at c less is = sym (ap (fold with_clause b) (drop-cons cs at c less ∙ (λ i. sym is i ∷ drop (sym (add-one at) i) cs)))

pub clauses_done : (b : Builder) (cs : List Clause) (at : ℕ) → length cs ≤ at → fold with_clause b (drop at cs) ≡ b
clauses_done b cs at all = ap (fold with_clause b) (drop_all at cs all)
