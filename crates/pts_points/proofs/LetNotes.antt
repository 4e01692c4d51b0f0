-- Each `let` that may be used is noted by the point that it names.
use Rattle.std.proofs.Common.{◌≡◌, ℕ, zero, suc, ◌+◌, ◌<◌, Option, Some, None, List, [], ◌∷◌, ◌++◌, map, length, refl, sym, ap, subst, ◌∙◌, append_assoc, length-append, arith}
use Rattle.std.specs.Prelude.{true, false, slice_get, All}
use Rattle.std.proofs.lemmas.Option.{slice_get_within}
use Rattle.pts_tree.specs.declared.sum.Range.{Range}
use Rattle.pts_tree.specs.declared.call.Call as call
use Rattle.pts_tree.specs.declared.call.CallForm.{CallForm}
use Rattle.pts_tree.specs.declared.call.CallForm.TheVariants as forms
use Rattle.pts_tree.specs.declared.expr.Expr.{Expr}
use Rattle.pts_tree.specs.declared.expr.Place.{Place}
use Rattle.pts_tree.specs.declared.loops.Clause.{Clause}
use Rattle.pts_tree.specs.declared.loops.Clause.TheVariants as clauses
use Rattle.pts_tree.specs.declared.loops.Initial.{Initial}
use Rattle.pts_tree.specs.declared.loops.Initial.TheVariants as initials
use Rattle.pts_tree.specs.declared.loops.BodyStmt.{BodyStmt}
use Rattle.pts_tree.specs.declared.script.Item.{Item}
use Rattle.pts_rules.specs.Parts.{Name, Simple, Throw, Assign, Call, Loop, statements}
use Rattle.pts_rules.specs.Known.{Scope}
use Rattle.pts_points.specs.declared.space.IterationSpace.{IterationSpace}
use Rattle.pts_points.specs.Lines.{no_loop, space_of}
use Rattle.pts_points.specs.Pieces.{LetPoint, Context, Deed, Point, Piece, taken, seeing, off_from, under, nothing, behind, sequence, served, served_off, off_vector, binding, branching, alone}
use Rattle.pts_points.specs.Points.{reads_of, both_reads, assign_deed, update_deed, kind_of_let, body_piece, initial_piece, clause_piece, source_piece, target_piece, answer_piece, piece_of, own_piece, call_piece, statement_piece, context_of, calls_in, points_from, item_points}
use Rattle.pts_points.specs.Standings.{IsNoted}
use Rattle.pts_points.proofs.Each.{Each, both, weaker, all_of, at_place}
use Rattle.pts_points.proofs.ReadForms.{by_reads, read_deed}
use Rattle.pts_points.proofs.StatementForms.{by_bodies, note_deed, give_deed, test_deed}
use Rattle.pts_points.proofs.Standing.{Good, good_nothing, good_behind, good_served, good_off_vector}
use Rattle.pts_points.proofs.Wholes.{index_ends, assigns_good, notes_good, gives_good, branches_good, tests_good, updates_good, good_reads, good_source, good_target, good_own, good_piece_of, good_clause, good_clauses, good_statement}
use Rattle.pts_points.proofs.Builds.{sized}

-- ---- places in longer lists

found_later : {A : Type 0} (xs ys : List A) (k : ℕ) (x : A) → slice_get xs k ≡ Some x → slice_get (xs ++ ys) k ≡ Some x
found_later [] ys k x at = absurd (let l : k < 0 = slice_get_within [] k x at in omega (arith, l))
found_later (y ∷ xs) ys zero x at = at
found_later (y ∷ xs) ys (suc k) x at = found_later xs ys k x at

found_last : {A : Type 0} (xs : List A) (x : A) (k : ℕ) → k ≡ length xs → slice_get (xs ++ x ∷ []) k ≡ Some x
found_last xs x k e = ap (slice_get (xs ++ x ∷ [])) e ∙ at_end xs
  where
    at_end : (ys : List _) → slice_get (ys ++ x ∷ []) (length ys) ≡ Some x
    at_end [] = refl
    at_end (y ∷ ys) = at_end ys

noted_later : (ps qs : List Point) (x : LetPoint) → IsNoted ps x → IsNoted (ps ++ qs) x
noted_later ps qs x h = record { point = h.point; there = found_later ps qs x.point h.point h.there; value = h.value; notes = h.notes; kind = h.kind }

all_later : (ps qs : List Point) (xs : List LetPoint) → Each (IsNoted ps) xs → Each (IsNoted (ps ++ qs)) xs
all_later ps qs xs h = weaker (IsNoted ps) (IsNoted (ps ++ qs)) (noted_later ps qs) xs h

-- the `let`s of each of these points are noted in a list
abbrev SeesNoted : List Point → Point → Type 0
SeesNoted all p = Each (IsNoted all) p.context.lets

see_later : (ps qs xs : List Point) → Each (SeesNoted ps) xs → Each (SeesNoted (ps ++ qs)) xs
see_later ps qs xs h = weaker (SeesNoted ps) (SeesNoted (ps ++ qs)) (λ p. all_later ps qs p.context.lets) xs h

-- ---- pieces

-- behind points that note the `let`s of the context
pub record Noting (x : Piece) : Type 0 where
  pub points : (ps : List Point) (context : Context) (n m : ℕ) → length ps ≡ n → Each (IsNoted ps) context.lets → Each (SeesNoted (ps ++ x.points context n m)) (x.points context n m)
  pub lets : (ps : List Point) (context : Context) (n m : ℕ) → length ps ≡ n → Each (IsNoted ps) context.lets → Each (IsNoted (ps ++ x.points context n m)) (x.lets context n)

noting_nothing : Noting nothing
noting_nothing = record { points = λ ps context n m e h. tt; lets = λ ps context n m e h. all_later ps [] context.lets h }

noting_behind : (x y : Piece) → Good x → Noting x → Noting y → Noting (behind x y)
noting_behind x y g f k =
    record {
      points = λ ps context n m e h.
          let xs = x.points context n m in
          let seen = seeing (x.lets context n) context in
          let ys = y.points seen (n + x.size) (taken context.off x.offs m) in
          let length_x = sized x g context n m in
          let joined = length-append ps xs in
          let count : length (ps ++ xs) ≡ n + x.size = omega (arith, joined, length_x, e) in
          let first : Each (SeesNoted (ps ++ (xs ++ ys))) xs = subst (λ zs. Each (SeesNoted zs) xs) (append_assoc ps xs ys) (see_later (ps ++ xs) ys xs (f.points ps context n m e h)) in
          let second : Each (SeesNoted (ps ++ (xs ++ ys))) ys = subst (λ zs. Each (SeesNoted zs) ys) (append_assoc ps xs ys)
          (k.points (ps ++ xs) seen (n + x.size) (taken context.off x.offs m) count (f.lets ps context n m e h)) in
          both (SeesNoted (ps ++ (xs ++ ys))) xs ys first second;
      lets = λ ps context n m e h.
          let xs = x.points context n m in
          let seen = seeing (x.lets context n) context in
          let ys = y.points seen (n + x.size) (taken context.off x.offs m) in
          let length_x = sized x g context n m in
          let joined = length-append ps xs in
          let count : length (ps ++ xs) ≡ n + x.size = omega (arith, joined, length_x, e) in
          subst (λ zs. Each (IsNoted zs) (y.lets seen (n + x.size))) (append_assoc ps xs ys)
          (k.lets (ps ++ xs) seen (n + x.size) (taken context.off x.offs m) count (f.lets ps context n m e h));
    }

-- Reads and a point, in whatever `off` it is
last_sees : (x : Piece) → Noting x → (ps : List Point) (context : Context) (n m : ℕ) (p : Point) → p.context.lets ≡ context.lets → length ps ≡ n → Each (IsNoted ps) context.lets
    → Each (SeesNoted (ps ++ (x.points context n m ++ p ∷ []))) (x.points context n m ++ p ∷ [])
last_sees x f ps context n m p same e h =
    let xs = x.points context n m in
    both (SeesNoted (ps ++ (xs ++ p ∷ []))) xs (p ∷ [])
    (subst (λ zs. Each (SeesNoted zs) xs) (append_assoc ps xs (p ∷ [])) (see_later (ps ++ xs) (p ∷ []) xs (f.points ps context n m e h)))
    (subst (Each (IsNoted (ps ++ (xs ++ p ∷ [])))) (sym same) (all_later ps (xs ++ p ∷ []) context.lets h), tt)

noting_served : (x : Piece) (deed : Context → ℕ → Deed) → Noting x → Noting (served x deed)
noting_served x deed f =
    record {
      points = λ ps context n m e h. last_sees x f ps context n m (record { number = n + x.size; context = context; deed = deed context n }) refl e h;
      lets = λ ps context n m e h. all_later ps ((served x deed).points context n m) context.lets h;
    }

noting_served_off : (x : Piece) (deed : Context → ℕ → Deed) → Noting x → Noting (served_off x deed)
noting_served_off x deed f =
    record {
      points = λ ps context n m e h. last_sees x f ps context n m (record { number = n + x.size; context = off_from (taken context.off x.offs m) context; deed = deed context n }) refl e h;
      lets = λ ps context n m e h. all_later ps ((served_off x deed).points context n m) context.lets h;
    }

noting_off_vector : (x : Piece) → Noting x → Noting (off_vector x)
noting_off_vector x f =
    record {
      points = λ ps context n m e h. f.points ps (off_from m context) n m e h;
      lets = λ ps context n m e h. all_later ps (x.points (off_from m context) n m) context.lets h;
    }

-- a `let`, which its own point notes
noting_let : (name : Name) (x : Expr) (reads : Piece) → Good reads → Noting reads → Noting (binding name (kind_of_let x) reads (note_deed x))
noting_let name x reads g f =
    record {
      points = (noting_served reads (note_deed x) f).points;
      lets = λ ps context n m e h.
          let own = reads.points context n m in
          let p : Point = record { number = n + reads.size; context = context; deed = note_deed x context n } in
          let length_own = sized reads g context n m in
          let joined = length-append ps own in
          let place : n + reads.size ≡ length (ps ++ own) = omega (arith, joined, length_own, e) in
          let found : slice_get (ps ++ (own ++ p ∷ [])) (n + reads.size) ≡ Some p =
          subst (λ zs. slice_get zs (n + reads.size) ≡ Some p) (append_assoc ps own (p ∷ [])) (found_last (ps ++ own) p (n + reads.size) place) in
          (record { point = p; there = found; value = record { kind = kind_of_let x context; first = n; expr = x }; notes = refl; kind = refl }, all_later ps (own ++ p ∷ []) context.lets h);
    }

noting_branching : (x : Piece) (deed : Context → ℕ → Deed) (first second : Piece) → Good (served x deed) → Good first → Noting x → Noting first → Noting second → Noting (branching x deed first second)
noting_branching x deed first second g k f one other =
    record {
      points = λ ps context n m e h.
          let t = n + x.size in
          let tested = (served x deed).points context n m in
          let ones = first.points (under t true context) (t + 1) (taken context.off x.offs m) in
          let twos = second.points (under t false context) (t + 1 + first.size) (taken context.off (x.offs + first.offs) m) in
          let length_tested = sized (served x deed) g context n m in
          let length_ones = sized first k (under t true context) (t + 1) (taken context.off x.offs m) in
          let joined = length-append ps tested in
          let joined_more = length-append (ps ++ tested) ones in
          let count : length (ps ++ tested) ≡ t + 1 = omega (arith, joined, length_tested, e) in
          let count_more : length ((ps ++ tested) ++ ones) ≡ t + 1 + first.size = omega (arith, joined_more, count, length_ones) in
          let known = all_later ps tested context.lets h in
          let all = tested ++ (ones ++ twos) in
          let one_way : (ps ++ tested) ++ (ones ++ twos) ≡ ps ++ all = append_assoc ps tested (ones ++ twos) in
          let other_way : ((ps ++ tested) ++ ones) ++ twos ≡ ps ++ all = append_assoc (ps ++ tested) ones twos ∙ one_way in
          both (SeesNoted (ps ++ all)) tested (ones ++ twos)
          (subst (λ zs. Each (SeesNoted zs) tested) one_way (see_later (ps ++ tested) (ones ++ twos) tested ((noting_served x deed f).points ps context n m e h)))
          (both (SeesNoted (ps ++ all)) ones twos
          (subst (λ zs. Each (SeesNoted zs) ones) other_way
          (see_later ((ps ++ tested) ++ ones) twos ones (one.points (ps ++ tested) (under t true context) (t + 1) (taken context.off x.offs m) count known)))
          (subst (λ zs. Each (SeesNoted zs) twos) other_way
          (other.points ((ps ++ tested) ++ ones) (under t false context) (t + 1 + first.size) (taken context.off (x.offs + first.offs) m) count_more (all_later (ps ++ tested) ones context.lets known))));
      lets = λ ps context n m e h. all_later ps ((branching x deed first second).points context n m) context.lets h;
    }

-- ---- expressions and bodies

-- a good piece that notes what it binds
abbrev Sound : Piece → Type 0
Sound x = Good x × Noting x

sound_behind : (x y : Piece) → Sound x → Sound y → Sound (behind x y)
sound_behind x y f g = (good_behind x y f.0 g.0, noting_behind x y f.0 f.1 g.1)

sound_nothing : Sound nothing
sound_nothing = (good_nothing, noting_nothing)

module _ (scope : Scope) (space : IterationSpace) where
  noting_reads : (x : Expr) → Noting (reads_of scope space x)
  noting_reads x =
      (by_reads scope space (λ places n y. Sound y) sound_nothing (λ xs ys m n y z f g. sound_behind y z f g)
      (λ name y f. (
        good_served (reads_of scope space y) (read_deed scope space name y) f.0 (λ context n. (index_ends scope space y context n, tt)),
        noting_served (reads_of scope space y) (read_deed scope space name y) f.1,
      )) x).1

  noting_both : (at : Place) (x : Expr) → Noting (both_reads scope space at x)
  noting_both at x = noting_behind (reads_of scope space at.index) (reads_of scope space x) (good_reads scope space at.index) (noting_reads at.index) (noting_reads x)

  noting_body : (xs : List BodyStmt) → Sound (body_piece scope space xs)
  noting_body =
      by_bodies scope space (λ places n y. Sound y) sound_nothing (λ xs ys m n y z f g. sound_behind y z f g)
      (λ at x. (assigns_good scope space at x, noting_served (both_reads scope space at x) (assign_deed scope space at x) (noting_both at x)))
      (λ name x. (notes_good scope space name x, noting_let name x (reads_of scope space x) (good_reads scope space x) (noting_reads x)))
      (λ name x. (gives_good scope space name x, noting_served (reads_of scope space x) (give_deed name x) (noting_reads x)))
      (λ c xs ys m n y z f g. (branches_good scope space c y z f.0 g.0, noting_branching (reads_of scope space c) (test_deed c) y z (tests_good scope space c) f.0 (noting_reads c) f.1 g.1))
      (λ xs n y f. (good_off_vector y f.0, noting_off_vector y f.1))
      (λ at op x. (updates_good scope space at op x, noting_served_off (both_reads scope space at x) (update_deed scope space at op x) (noting_both at x)))

-- ---- statements

noting_alone : (deed : Deed) → Noting (alone deed)
noting_alone deed = noting_served nothing (λ context n. deed) noting_nothing

noting_part : {A : Type 0} (f : A → Piece) → ((x : A) → Noting (f x)) → (o : Option A) → Noting (piece_of f o)
noting_part f all None = noting_nothing
noting_part f all (Some x) = all x

module _ (scope : Scope) where
  noting_own : (form : CallForm) (x : Range) → Noting (own_piece scope form x)
  noting_own forms.ForEach x = noting_alone _
  noting_own forms.Transform x = noting_nothing
  noting_own forms.FindIf x = noting_nothing
  noting_own forms.CountIf x = noting_nothing
  noting_own forms.Reduce x = noting_nothing
  noting_own forms.TransformReduce x = noting_nothing
  noting_own forms.InclusiveScan x = noting_nothing
  noting_own forms.ExclusiveScan x = noting_nothing
  noting_own forms.TransformInclusiveScan x = noting_nothing
  noting_own forms.TransformExclusiveScan x = noting_nothing

  noting_call : (x : call.Call) → Noting (call_piece scope x)
  noting_call x =
      let second = piece_of (source_piece scope) x.second in
      let own = own_piece scope x.form x.first in
      let target = piece_of (target_piece scope) x.target in
      let store = piece_of (answer_piece scope) x.store in
      let reading = noting_behind (source_piece scope x.first) second (good_source scope x.first) (noting_alone _) (noting_part (source_piece scope) (λ y. noting_alone _) x.second) in
      let ending = noting_behind target store (good_piece_of scope (target_piece scope) (good_target scope) x.target) (noting_part (target_piece scope) (λ y. noting_alone _) x.target)
      (noting_part (answer_piece scope) (λ y. noting_alone _) x.store) in
      noting_behind (behind (source_piece scope x.first) second) (behind own (behind target store))
      (good_behind (source_piece scope x.first) second (good_source scope x.first) (good_piece_of scope (source_piece scope) (good_source scope) x.second)) reading
      (noting_behind own (behind target store) (good_own scope x.form x.first) (noting_own x.form x.first) ending)

  noting_clause : (x : Clause) → Noting (clause_piece scope x)
  noting_clause (clauses.Reduce x) = noting_alone _
  noting_clause (clauses.Induct x) = by_initial x.initial
    where
      by_initial : (y : Initial) → Noting (initial_piece scope y)
      by_initial (initials.Val y) = noting_nothing
      by_initial (initials.Cell y) = noting_alone _

  noting_clauses : (xs : List Clause) → Noting (sequence (map (clause_piece scope) xs))
  noting_clauses [] = noting_nothing
  noting_clauses (x ∷ xs) = noting_behind (clause_piece scope x) (sequence (map (clause_piece scope) xs)) (good_clause scope x) (noting_clause x) (noting_clauses xs)

  noting_statement : (x : Simple) → Noting (statement_piece scope x)
  noting_statement (Throw n) = noting_nothing
  noting_statement (Assign at x) = noting_served (reads_of scope no_loop x) _ (noting_reads scope no_loop x)
  noting_statement (Call x) = noting_call x
  noting_statement (Loop x) =
      noting_behind (sequence (map (clause_piece scope) x.clauses)) (body_piece scope (space_of scope x) x.body) (good_clauses scope x.clauses) (noting_clauses x.clauses) (noting_body scope (space_of scope x) x.body).1

  no_lets : (c : ℕ) (x : Simple) (ps : List Point) → Each (IsNoted ps) (context_of scope c x).lets
  no_lets c (Throw n) ps = tt
  no_lets c (Assign at x) ps = tt
  no_lets c (Call x) ps = tt
  no_lets c (Loop x) ps = tt

  all_note : (ps : List Point) (n m c : ℕ) (xs : List Simple) → length ps ≡ n → Each (SeesNoted (ps ++ points_from scope n m c xs)) (points_from scope n m c xs)
  all_note ps n m c [] e = tt
  all_note ps n m c (x ∷ xs) e =
      let y = statement_piece scope x in
      let own = y.points (context_of scope c x) n m in
      let rest = points_from scope (n + y.size) (m + y.offs) (c + calls_in x) xs in
      let length_own = sized y (good_statement scope x) (context_of scope c x) n m in
      let joined = length-append ps own in
      let count : length (ps ++ own) ≡ n + y.size = omega (arith, joined, length_own, e) in
      both (SeesNoted (ps ++ (own ++ rest))) own rest
      (subst (λ zs. Each (SeesNoted zs) own) (append_assoc ps own rest) (see_later (ps ++ own) rest own ((noting_statement x).points ps (context_of scope c x) n m e (no_lets c x ps))))
      (subst (λ zs. Each (SeesNoted zs) rest) (append_assoc ps own rest) (all_note (ps ++ own) (n + y.size) (m + y.offs) (c + calls_in x) xs count))

  pub lets_noted : (earlier : ℕ) (x : Item) (k : ℕ) (p : Point) → slice_get (item_points scope earlier x) k ≡ Some p → All (IsNoted (item_points scope earlier x)) p.context.lets
  lets_noted earlier x k p at =
      all_of (IsNoted (item_points scope earlier x)) p.context.lets
      (at_place (SeesNoted (item_points scope earlier x)) (item_points scope earlier x) k p (all_note [] 0 0 earlier (statements x) refl) at)
