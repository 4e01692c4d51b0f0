-- How the steps of pieces are added one behind the other.
use Rattle.std.proofs.Common.{◌≡◌, ℕ, ◌+◌, ◌-◌, List, [], ◌∷◌, ◌++◌, length, map, replicate, drop, take, refl, sym, ap, subst, ◌∙◌, append_assoc, length-append, arith}
use Rattle.std.specs.Prelude.{true, false}
use Rattle.std.proofs.lemmas.List.{length-replicate, length_push}
use Rattle.pts_types.specs.declared.value.Kind.{Kind}
use Rattle.pts_tree.specs.declared.expr.Expr.{Expr}
use Rattle.pts_tree.specs.declared.loops.Loop as loops
use Rattle.pts_rules.specs.declared.meaning.Meaning.TheVariants.{Value}
use Rattle.pts_rules.specs.Mistyped.{body_scope}
use Rattle.pts_rules.specs.Parts.{Name}
use Rattle.pts_code.specs.declared.code.Code.{Code}
use Rattle.pts_code.specs.declared.compiling.Spot.TheVariants as places
use Rattle.pts_code.specs.Compiling.{IsCode}
use Rattle.pts_points.specs.Pieces.{LetPoint, Context, Deed, Point, Piece, names_in, seeing, taken, nothing, behind, served, served_off, off_from, off_vector, binding, under, branching}
use Rattle.pts_points.proofs.Builds.{append_nothing}
use Rattle.pts_steps.specs.declared.builder.Builder.{Builder}
use Rattle.pts_steps.specs.declared.step.Step.{Step}
use Rattle.pts_steps.specs.declared.step.Step.TheVariants as steps
use Rattle.pts_steps.specs.Building.{let_entry, kinds_at, names_at, head_spots, let_spots, spots_at, Stands, with_reads, with_step, IsAbove, Goes, GoesInside, GoesBoth, mark_of, left}
use Rattle.pts_steps.specs.Positions.{heads}
use Rattle.pts_steps.specs.Scopes.{HasNoLocals}
use Rattle.pts_steps.specs.Steps.{AreSteps, Computes, Does}
use Rattle.pts_steps.proofs.Placed.{computes}
use Rattle.pts_steps.proofs.ReadSteps.{AreReads, steps_both}

-- ---- names that stand above others

pub above_same : (a b : Builder) → b.kinds ≡ a.kinds → b.names ≡ a.names → b.spots ≡ a.spots → IsAbove a b
above_same a b k n s = record { kinds_more = []; names_more = []; spots_more = []; kinds = k; names = n; spots = s ∙ sym (append_nothing a.spots) }

pub above_both : (a b c : Builder) → IsAbove a b → IsAbove b c → IsAbove a c
above_both a b c g h =
    record {
      kinds_more = h.kinds_more ++ g.kinds_more;
      names_more = h.names_more ++ g.names_more;
      spots_more = g.spots_more ++ h.spots_more;
      kinds = h.kinds ∙ ap (λ s. h.kinds_more ++ s) g.kinds ∙ sym (append_assoc h.kinds_more g.kinds_more a.kinds);
      names = h.names ∙ ap (λ s. h.names_more ++ s) g.names ∙ sym (append_assoc h.names_more g.names_more a.names);
      spots = h.spots ∙ ap (λ s. s ++ h.spots_more) g.spots ∙ append_assoc a.spots g.spots_more h.spots_more;
    }

dropped : {A : Type 0} (xs ys : List A) → drop (length xs) (xs ++ ys) ≡ ys
dropped [] ys = refl
dropped (x ∷ xs) ys = dropped xs ys

taken_front : {A : Type 0} (xs ys : List A) → take (length xs) (xs ++ ys) ≡ xs
taken_front [] ys = refl
taken_front (x ∷ xs) ys = ap (λ zs. x ∷ zs) (taken_front xs ys)

left_front : {A : Type 0} (now more old : List A) → now ≡ more ++ old → drop (length now - length old) now ≡ old
left_front now more old is =
    let long : length now ≡ length more + length old = ap length is ∙ length-append more old in
    let count : length now - length old ≡ length more = omega (arith, long) in
    ap (λ n. drop n now) count ∙ ap (drop (length more)) is ∙ dropped more old

-- what is left of names that stand above others are these
pub left_kinds : (a b : Builder) → IsAbove a b → drop (length b.kinds - length a.kinds) b.kinds ≡ a.kinds
left_kinds a b g = left_front b.kinds g.kinds_more a.kinds g.kinds

pub left_names : (a b : Builder) → IsAbove a b → drop (length b.names - length a.names) b.names ≡ a.names
left_names a b g = left_front b.names g.names_more a.names g.names

pub left_spots : (a b : Builder) → IsAbove a b → take (length a.spots) b.spots ≡ a.spots
left_spots a b g = ap (take (length a.spots)) g.spots ∙ taken_front a.spots g.spots_more

-- ---- code at a place

pub computed : (x : loops.Loop) (b : Builder) (lets : List LetPoint) (kind wanted : Kind) (first start : ℕ) (y : Expr) (code : Code)
    → Stands x b lets → kind ≡ wanted → first ≡ start → IsCode b.names b.spots kind first y code
    → Computes b.globals x lets (record { kind = wanted; first = start; expr = y }) code
computed x b lets kind wanted first start y code s same at is =
    subst (λ k. Computes b.globals x lets (record { kind = k; first = start; expr = y }) code) same
    (subst (λ n. Computes b.globals x lets (record { kind = kind; first = n; expr = y }) code) at
    (computes b.globals x lets kind first y code s.free
    (subst (λ n. IsCode n (spots_at x lets) kind first y code) s.names (subst (λ p. IsCode b.names p kind first y code) s.spots is))))

-- the names of a place as the rules of kinds see them
pub kinds_here : (x : loops.Loop) (b : Builder) (context : Context) → context.head ≡ body_scope b.globals x → Stands x b context.lets → b.kinds ≡ names_in context
kinds_here x b context head s = s.kinds ∙ ap (λ h. map let_entry context.lets ++ h) (sym head)

-- ---- pieces

module _ (x : loops.Loop) where
  pub goes_none : (b : Builder) → Goes x b b nothing
  goes_none b =
      record {
        globals = refl;
        count = omega arith;
        above = above_same b b refl refl refl;
        stands = λ context head s. s;
        steps = λ context m points head s are. subst (λ ps. AreSteps b.globals x ps b.steps) (sym (append_nothing points)) are;
      }

  pub goes_behind : (a b c : Builder) (p q : Piece) → Goes x a b p → Goes x b c q → Goes x a c (behind p q)
  goes_behind a b c p q g h =
      let one = g.count in
      let two = h.count in
      let at : length b.steps ≡ length a.steps + p.size = one in
      record {
        globals = h.globals ∙ g.globals;
        count = omega (arith, one, two);
        above = above_both a b c g.above h.above;
        stands = λ context head s.
            let next = seeing (p.lets context (length a.steps)) context in
            subst (λ n. Stands x c (q.lets next n)) at (h.stands next (head ∙ ap (λ z. body_scope z x) (sym g.globals)) (g.stands context head s));
        steps = λ context m points head s are.
            let next = seeing (p.lets context (length a.steps)) context in
            let own = p.points context (length a.steps) m in
            let later = taken context.off p.offs m in
            let first : AreSteps b.globals x (points ++ own) b.steps = subst (λ z. AreSteps z x (points ++ own) b.steps) (sym g.globals) (g.steps context m points head s are) in
            subst (λ z. AreSteps z x (points ++ (behind p q).points context (length a.steps) m) c.steps) g.globals
            (subst (λ ps. AreSteps b.globals x ps c.steps) (append_assoc points own (q.points next (length a.steps + p.size) later))
            (subst (λ n. AreSteps b.globals x ((points ++ own) ++ q.points next n later) c.steps) at
            (h.steps next later (points ++ own) (head ∙ ap (λ z. body_scope z x) (sym g.globals)) (g.stands context head s) first)));
      }

  -- ---- a step behind Reads

  module _ (b : Builder) (p : Piece) (k : ℕ) (deed : Context → ℕ → Deed) (step : Step) where
    -- the step does what is done there, wherever the builder stands
    abbrev pub Suits : Type 0
    Suits = (context : Context) → context.head ≡ body_scope b.globals x → Stands x b context.lets → Does b.globals x context.lets (deed context (length b.steps)) step

    abbrev behind_reads : Builder
    behind_reads = with_step (with_reads b k) step

    count_behind : p.size ≡ k → length behind_reads.steps ≡ length b.steps + (p.size + 1)
    count_behind e =
        let push = length_push (b.steps ++ replicate k steps.Read) step in
        let both = length-append b.steps (replicate k steps.Read) in
        let many = length-replicate k steps.Read in
        omega (arith, push, both, many, e)

    steps_behind : (context : Context) (m : ℕ) (points : List Point) (last : Point) → AreReads b.globals x p k → AreSteps b.globals x points b.steps
        → Does b.globals x last.context.lets last.deed step
        → AreSteps b.globals x (points ++ (p.points context (length b.steps) m ++ last ∷ [])) behind_reads.steps
    steps_behind context m points last r are does =
        let own = p.points context (length b.steps) m in
        subst (λ ps. AreSteps b.globals x ps behind_reads.steps) (append_assoc points own (last ∷ []))
        (steps_both b.globals x (points ++ own) (last ∷ []) (b.steps ++ replicate k steps.Read) (step ∷ [])
        (steps_both b.globals x points own b.steps (replicate k steps.Read) are (r.steps context (length b.steps) m)) (does, tt))

    here : (lets : List LetPoint) → Stands x b lets → Stands x behind_reads lets
    here lets s = record { free = s.free; kinds = s.kinds; names = s.names; spots = s.spots }

    pub goes_served : AreReads b.globals x p k → Suits → Goes x b behind_reads (served p deed)
    goes_served r suits =
        record {
          globals = refl;
          count = count_behind r.size;
          above = above_same b behind_reads refl refl refl;
          stands = λ context head s. here context.lets s;
          steps = λ context m points head s are. steps_behind context m points _ r are (suits context head s);
        }

    pub goes_served_off : AreReads b.globals x p k → Suits → Goes x b behind_reads (served_off p deed)
    goes_served_off r suits =
        record {
          globals = refl;
          count = count_behind r.size;
          above = above_same b behind_reads refl refl refl;
          stands = λ context head s. here context.lets s;
          steps = λ context m points head s are. steps_behind context m points _ r are (suits context head s);
        }

    -- a `let` in scope behind its note
    abbrev pub bound : Name → Kind → ℕ → Builder
    bound name kind number =
        record behind_reads {
          kinds = (name, Value kind) ∷ b.kinds;
          names = (name, Value kind) ∷ b.names;
          spots = b.spots ++ places.Note number ∷ [];
        }

    pub goes_bound : (name : Name) (kind : Kind) (number : ℕ) (of_context : Context → Kind) → AreReads b.globals x p k → Suits → number ≡ length b.steps + k
        → ((context : Context) → context.head ≡ body_scope b.globals x → Stands x b context.lets → kind ≡ of_context context)
        → Goes x b (bound name kind number) (binding name of_context p deed)
    goes_bound name kind number of_context r suits at same =
        let number_is : number ≡ length b.steps + p.size = at ∙ ap (λ n. length b.steps + n) (sym r.size) in
        record {
          globals = refl;
          count = count_behind r.size;
          above =
              record {
                kinds_more = (name, Value kind) ∷ [];
                names_more = (name, Value kind) ∷ [];
                spots_more = places.Note number ∷ [];
                kinds = refl;
                names = refl;
                spots = refl;
              };
          stands = λ context head s.
              let own : LetPoint = record { name = name; kind = of_context context; point = length b.steps + p.size } in
              record {
                free = s.free;
                kinds = λ i. (name, Value (same context head s i)) ∷ s.kinds i;
                names = λ i. (name, Value (same context head s i)) ∷ s.names i;
                spots = (λ i. s.spots i ++ places.Note (number_is i) ∷ []) ∙ append_assoc (head_spots 0 (heads x)) (let_spots context.lets) (places.Note own.point ∷ []);
              };
          steps = λ context m points head s are. steps_behind context m points _ r are (suits context head s);
        }

  -- ---- braces

  pub goes_inside : (a b c : Builder) (p : Piece) → Goes x a b p → c ≡ left (mark_of a) b → GoesInside x a c p
  goes_inside a b c p g is =
      record {
        globals = ap (λ z. z.globals) is ∙ g.globals;
        count = ap (λ z. length z.steps) is ∙ g.count;
        kinds = ap (λ z. z.kinds) is ∙ left_kinds a b g.above;
        names = ap (λ z. z.names) is ∙ left_names a b g.above;
        spots = ap (λ z. z.spots) is ∙ left_spots a b g.above;
        steps = λ context m points head s are.
            subst (AreSteps a.globals x (points ++ p.points context (length a.steps) m)) (ap (λ z. z.steps) (sym is)) (g.steps context m points head s are);
      }

  still : (a b : Builder) (p : Piece) (lets : List LetPoint) → GoesInside x a b p → Stands x a lets → Stands x b lets
  still a b p lets g s =
      record {
        free = subst (λ z. HasNoLocals z) (sym g.globals) s.free;
        kinds = g.kinds ∙ s.kinds ∙ ap (λ z. kinds_at z x lets) (sym g.globals);
        names = g.names ∙ s.names ∙ ap (λ z. names_at z x lets) (sym g.globals);
        spots = g.spots ∙ s.spots;
      }

  pub goes_off_vector : (a b : Builder) (p : Piece) → GoesInside x a b p → Goes x a b (off_vector p)
  goes_off_vector a b p g =
      record {
        globals = g.globals;
        count = g.count;
        above = above_same a b g.kinds g.names g.spots;
        stands = λ context head s. still a b p context.lets g s;
        steps = λ context m points head s are. g.steps (off_from m context) m points head s are;
      }

  pub goes_nothing : (b : Builder) → GoesInside x b b nothing
  goes_nothing b = let g = goes_none b in record { globals = refl; count = g.count; kinds = refl; names = refl; spots = refl; steps = g.steps }

  pub goes_branching : (a b d : Builder) (p : Piece) (deed : Context → ℕ → Deed) (first second : Piece)
      → Goes x a b (served p deed) → GoesBoth x b d first second → Goes x a d (branching p deed first second)
  goes_branching a b d p deed first second t both =
      let c = both.between in
      let f = both.first_goes in
      let s = both.second_goes in
      let n = length a.steps in
      let tested = t.count in
      let one = f.count in
      let two = s.count in
      let at : length b.steps ≡ n + p.size + 1 = omega (arith, tested) in
      let then_at : length c.steps ≡ n + p.size + 1 + first.size = omega (arith, tested, one) in
      record {
        globals = s.globals ∙ f.globals ∙ t.globals;
        count = omega (arith, tested, one, two);
        above = above_both a b d t.above (above_both b c d (above_same b c f.kinds f.names f.spots) (above_same c d s.kinds s.names s.spots));
        stands = λ context head h. still c d second context.lets s (still b c first context.lets f (t.stands context head h));
        steps = λ context m points head h are.
            let yes = under (n + p.size) true context in
            let no = under (n + p.size) false context in
            let own = (served p deed).points context n m in
            let m1 = taken context.off p.offs m in
            let m2 = taken context.off (p.offs + first.offs) m in
            let then_points = first.points yes (n + p.size + 1) m1 in
            let else_points = second.points no (n + p.size + 1 + first.size) m2 in
            let b_head : context.head ≡ body_scope b.globals x = head ∙ ap (λ z. body_scope z x) (sym t.globals) in
            let c_head : context.head ≡ body_scope c.globals x = b_head ∙ ap (λ z. body_scope z x) (sym f.globals) in
            let b_stands : Stands x b context.lets = t.stands context head h in
            let c_stands : Stands x c context.lets = still b c first context.lets f b_stands in
            let at_test : AreSteps b.globals x (points ++ own) b.steps = subst (λ z. AreSteps z x (points ++ own) b.steps) (sym t.globals) (t.steps context m points head h are) in
            let at_then : AreSteps c.globals x ((points ++ own) ++ then_points) c.steps =
            subst (λ z. AreSteps z x ((points ++ own) ++ then_points) c.steps) (sym f.globals)
            (subst (λ k. AreSteps b.globals x ((points ++ own) ++ first.points yes k m1) c.steps) at (f.steps yes m1 (points ++ own) b_head b_stands at_test)) in
            let at_else : AreSteps c.globals x (((points ++ own) ++ then_points) ++ else_points) d.steps =
            subst (λ k. AreSteps c.globals x (((points ++ own) ++ then_points) ++ second.points no k m2) d.steps) then_at (s.steps no m2 ((points ++ own) ++ then_points) c_head c_stands at_then) in
            subst (λ z. AreSteps z x (points ++ (branching p deed first second).points context n m) d.steps) (f.globals ∙ t.globals)
            (subst (λ ps. AreSteps c.globals x ps d.steps)
            (append_assoc (points ++ own) then_points else_points ∙ append_assoc points own (then_points ++ else_points)) at_else);
      }
