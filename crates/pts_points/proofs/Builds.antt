-- How pieces are added one behind the other.
use Rattle.std.proofs.Common.{◌≡◌, ℕ, suc, ◌+◌, Option, Some, None, List, [], ◌∷◌, ◌++◌, map, length, refl, sym, ap, subst, ◌∙◌, append_assoc, length-append, arith}
use Rattle.std.specs.Prelude.{Bool, true, false, unwrap_or}
use Rattle.pts_types.specs.declared.value.Kind.{Kind}
use Rattle.pts_affine.specs.declared.line.Line.{Line}
use Rattle.pts_rules.specs.Known.{Scope}
use Rattle.pts_rules.specs.Parts.{Name}
use Rattle.pts_points.specs.declared.point.PointForm.{PointForm}
use Rattle.pts_points.specs.declared.point.PointInfo.{PointInfo}
use Rattle.pts_points.specs.declared.builder.Test.{Test}
use Rattle.pts_points.specs.declared.builder.Builder.{Builder}
use Rattle.pts_points.specs.Pieces.{LetPoint, Context, Deed, Point, Piece, taken, nothing, behind, served, served_off, off_vector, binding, under, branching}
use Rattle.pts_points.specs.Points.{form_of, array_of, line_of_deed}
use Rattle.pts_points.specs.Widths.{small}
use Rattle.pts_points.specs.Building.{kept_line, kept_branch, kept_info, branch_of, context_at, with_points, Adds, AddsUnder, pushed, off_builder, back_on}
use Rattle.pts_points.proofs.Standing.{Good, good_nothing}
use Rattle.pts_points.proofs.PointLists.{length_is}

-- ---- lists

pub append_nothing : {A : Type 0} (xs : List A) → xs ++ [] ≡ xs
append_nothing [] = refl
append_nothing (x ∷ xs) = ap (λ ys. x ∷ ys) (append_nothing xs)

pub map_both : {A B : Type 0} (f : A → B) (xs ys : List A) → map f (xs ++ ys) ≡ map f xs ++ map f ys
map_both f [] ys = refl
map_both f (x ∷ xs) ys = ap (λ zs. f x ∷ zs) (map_both f xs ys)

pub map_length : {A B : Type 0} (f : A → B) (xs : List A) → length (map f xs) ≡ length xs
map_length f [] = refl
map_length f (x ∷ xs) = ap suc (map_length f xs)

pub map_twice : {A B C : Type 0} (g : B → C) (f : A → B) (xs : List A) → map g (map f xs) ≡ map (λ x. g (f x)) xs
map_twice g f [] = refl
map_twice g f (x ∷ xs) = ap (λ zs. g (f x) ∷ zs) (map_twice g f xs)

-- ---- numbers of `off`

pub taken_nothing : (o : Option ℕ) (m : ℕ) → taken o 0 m ≡ m
taken_nothing None m = omega arith
taken_nothing (Some d) m = refl

pub taken_both : (o : Option ℕ) (a b m : ℕ) → taken o b (taken o a m) ≡ taken o (a + b) m
taken_both None a b m = omega arith
taken_both (Some d) a b m = refl

-- ---- points behind points

-- as many points as the size of the piece
pub sized : (x : Piece) → Good x → (context : Context) (n m : ℕ) → length (x.points context n m) ≡ x.size
sized x g context n m = let h = length_is n (n + x.size) (x.points context n m) (g.numbered context n m) in omega (arith, h)

pub more_length : (b : Builder) (context : Context) (x : Piece) → Good x → length (with_points b context x).points ≡ length b.points + x.size
more_length b context x g =
    length-append b.points (map (kept_info b.item) (x.points context (length b.points) b.offs))
    ∙ ap (λ k. length b.points + k) (map_length (kept_info b.item) (x.points context (length b.points) b.offs) ∙ sized x g context (length b.points) b.offs)

-- the same builder with these points behind its own
abbrev appending : Builder → List Point → ℕ → Builder
appending b ps offs = record b { points = b.points ++ map (kept_info b.item) ps; offs = offs }

appending_both : (b : Builder) (ps qs : List Point) (m k : ℕ) → appending (appending b ps m) qs k ≡ appending b (ps ++ qs) k
appending_both b ps qs m k =
    λ i. record b {
      points = (append_assoc b.points (map (kept_info b.item) ps) (map (kept_info b.item) qs) ∙ ap (λ zs. b.points ++ zs) (sym (map_both (kept_info b.item) ps qs))) i;
      offs = k;
    }

pub adds_nothing : (b : Builder) → Adds b b nothing
adds_nothing b = record { added = λ head lets. λ i. record b { points = sym (append_nothing b.points) i; offs = sym (taken_nothing b.off b.offs) i } }

appended_length : (b : Builder) (ps : List Point) (m : ℕ) → length (appending b ps m).points ≡ length b.points + length ps
appended_length b ps m = length-append b.points (map (kept_info b.item) ps) ∙ ap (λ k. length b.points + k) (map_length (kept_info b.item) ps)

-- a piece behind points that stand behind those of a builder
piece_appended : (b : Builder) (ps : List Point) (m n : ℕ) (context : Context) (y : Piece) → length b.points + length ps ≡ n
    → with_points (appending b ps m) context y ≡ appending b (ps ++ y.points context n m) (taken b.off y.offs m)
piece_appended b ps m n context y e =
    (λ i. appending (appending b ps m) (y.points context ((appended_length b ps m ∙ e) i) m) (taken b.off y.offs m))
    ∙ appending_both b ps (y.points context n m) m (taken b.off y.offs m)

-- a second piece, where the first one has left its points
second_added : (b : Builder) (head : Scope) (lets : List LetPoint) (x y : Piece) → Good x
    → with_points (with_points b (context_at b head lets) x) (context_at b head (x.lets (context_at b head lets) (length b.points))) y ≡ with_points b (context_at b head lets) (behind x y)
second_added b head lets x y g =
    let context = context_at b head lets in
    let seen = context_at b head (x.lets context (length b.points)) in
    let own = x.points context (length b.points) b.offs in
    let now = taken b.off x.offs b.offs in
    piece_appended b own now (length b.points + x.size) seen y (ap (λ k. length b.points + k) (sized x g context (length b.points) b.offs))
    ∙ (λ i. appending b (own ++ y.points seen (length b.points + x.size) now) (taken_both b.off x.offs y.offs b.offs i))

pub adds_behind : (b c d : Builder) (x y : Piece) → Good x → Adds b c x → Adds c d y → Adds b d (behind x y)
adds_behind b c d x y g h k =
    record {
      added = λ head lets.
          let seen = x.lets (context_at b head lets) (length b.points) in
          k.added head seen
          ∙ (λ i. with_points (h.added head lets i) (context_at (h.added head lets i) head seen) y)
          ∙ second_added b head lets x y g;
    }

-- ---- a point behind its Reads

-- whatever the names in scope are, what is done is shown by this form, array and line
pub record IsShownAs (deed : Context → ℕ → Deed) (form : PointForm) (array : ℕ) (line : Line) : Type 0 where
  pub same_form : (context : Context) (n : ℕ) → form_of (deed context n) ≡ form
  pub same_array : (context : Context) (n : ℕ) → small (array_of (deed context n)) ≡ array
  pub same_line : (context : Context) (n : ℕ) → kept_line (line_of_deed (deed context n)) ≡ line

-- one point, as it is kept
abbrev last : Builder → PointForm → ℕ → Line → Option ℕ → ℕ → PointInfo
last b form array line off n =
    record {
      item = b.item;
      number = small n;
      call = b.call;
      form = form;
      array = array;
      line = line;
      branches = map (λ x. kept_branch (branch_of x)) b.branches;
      off = off;
    }

abbrev at_point : ℕ → Context → (Context → ℕ → Deed) → ℕ → Point
at_point number context deed n = record { number = number; context = context; deed = deed context n }

kept_last : (b : Builder) (head : Scope) (lets : List LetPoint) (deed : Context → ℕ → Deed) (form : PointForm) (array : ℕ) (line : Line) (off : Option ℕ) (n first : ℕ)
    → IsShownAs deed form array line
    → last b form array line off n ≡ kept_info b.item (record { number = n; context = record (context_at b head lets) { off = off }; deed = deed (context_at b head lets) first })
kept_last b head lets deed form array line off n first s =
    let context = context_at b head lets in
    λ i. record {
      item = b.item;
      number = small n;
      call = b.call;
      form = sym (s.same_form context first) i;
      array = sym (s.same_array context first) i;
      line = sym (s.same_line context first) i;
      branches = sym (map_twice kept_branch branch_of b.branches) i;
      off = off;
    }

-- a point with this `off` behind those of Reads
served_added : (b : Builder) (head : Scope) (lets : List LetPoint) (x : Piece) (deed : Context → ℕ → Deed) (form : PointForm) (array : ℕ) (line : Line) (off : Option ℕ) (offs : ℕ)
    → Good x → IsShownAs deed form array line
    → (let first = with_points b (context_at b head lets) x in
    record first { points = first.points ++ last b form array line off (length first.points) ∷ []; offs = offs })
    ≡ appending b (x.points (context_at b head lets) (length b.points) b.offs
    ++ record { number = length b.points + x.size; context = record (context_at b head lets) { off = off }; deed = deed (context_at b head lets) (length b.points) } ∷ []) offs
served_added b head lets x deed form array line off offs g s =
    let context = context_at b head lets in
    let first = with_points b context x in
    let own = x.points context (length b.points) b.offs in
    let n = length b.points + x.size in
    let point : Point = record { number = n; context = record context { off = off }; deed = deed context (length b.points) } in
    (λ i. record first { points = first.points ++ last b form array line off (more_length b context x g i) ∷ []; offs = offs })
    ∙ (λ i. record first { points = first.points ++ kept_last b head lets deed form array line off n (length b.points) s i ∷ []; offs = offs })
    ∙ appending_both b own (point ∷ []) first.offs offs

pub adds_served : (b c d : Builder) (x : Piece) (deed : Context → ℕ → Deed) (form : PointForm) (array : ℕ) (line : Line)
    → Good x → IsShownAs deed form array line → Adds b c x → d ≡ pushed c form array line → Adds b d (served x deed)
adds_served b c d x deed form array line g s h e =
    record {
      added = λ head lets.
          e
          ∙ (λ i. pushed (h.added head lets i) form array line)
          ∙ served_added b head lets x deed form array line b.off (taken b.off x.offs b.offs) g s;
    }

-- a point without Reads
pub adds_alone : (b c : Builder) (deed : Deed) → c ≡ pushed b (form_of deed) (small (array_of deed)) (kept_line (line_of_deed deed)) → Adds b c (served nothing (λ context n. deed))
adds_alone b c deed e =
    adds_served b b c nothing (λ context n. deed) (form_of deed) (small (array_of deed)) (kept_line (line_of_deed deed)) good_nothing
    (record { same_form = λ context n. refl; same_array = λ context n. refl; same_line = λ context n. refl }) (adds_nothing b) e

pub adds_binding : (b d : Builder) (name : Name) (kind : Context → Kind) (x : Piece) (deed : Context → ℕ → Deed) → Adds b d (served x deed) → Adds b d (binding name kind x deed)
adds_binding b d name kind x deed h = record { added = h.added }

-- ---- off the vector

pub adds_served_off : (b c d : Builder) (x : Piece) (deed : Context → ℕ → Deed) (form : PointForm) (array : ℕ) (line : Line)
    → Good x → IsShownAs deed form array line → Adds b c x → d ≡ back_on c.off (pushed (off_builder c) form array line) → Adds b d (served_off x deed)
adds_served_off b c d x deed form array line g s h e =
    record {
      added = λ head lets.
          let now = taken b.off x.offs b.offs in
          e
          ∙ (λ i. back_on (h.added head lets i).off (pushed (off_builder (h.added head lets i)) form array line))
          ∙ served_added b head lets x deed form array line (Some (unwrap_or b.off now)) (taken b.off 1 now) g s
          ∙ (λ i. appending b ((served_off x deed).points (context_at b head lets) (length b.points) b.offs) (taken_both b.off x.offs 1 b.offs i));
    }

pub adds_off_vector : (b c d : Builder) (x : Piece) → Adds (off_builder b) c x → d ≡ back_on b.off c → Adds b d (off_vector x)
adds_off_vector b c d x h e =
    record { added = λ head lets. e ∙ (λ i. back_on b.off (h.added head lets i)) }

-- ---- branches

pub adds_under_nothing : (test : Test) (b : Builder) → AddsUnder test b b nothing
adds_under_nothing test b = record { added = λ head lets. λ i. record b { points = sym (append_nothing b.points) i; offs = sym (taken_nothing b.off b.offs) i } }

-- pieces that are added where one test more stands around
pub adds_under : (test : Test) (b c d : Builder) (x : Piece) → Adds (record b { branches = b.branches ++ test ∷ [] }) c x → d ≡ record c { branches = b.branches } → AddsUnder test b d x
adds_under test b c d x h e =
    record {
      added = λ head lets.
          let inner = record b { branches = b.branches ++ test ∷ [] } in
          e
          ∙ (λ i. record (h.added head lets i) { branches = b.branches })
          ∙ (λ i. record b {
            points =
                b.points
                ++ map (kept_info b.item) (x.points (record (context_at b head lets) { branches = map_both branch_of b.branches (test ∷ []) i }) (length b.points) b.offs);
            offs = taken b.off x.offs b.offs;
          });
    }

-- the same by the tests around the inner place and those around the outer one
pub adds_branch : (test : Test) (b c : Builder) (x : Piece) (inner outer : List Test) → inner ≡ b.branches ++ test ∷ [] → outer ≡ b.branches
    → Adds (record b { branches = inner }) c x → AddsUnder test b (record c { branches = outer }) x
adds_branch test b c x inner outer is_inner is_outer h =
    adds_under test b c (record c { branches = outer }) x (subst (λ ts. Adds (record b { branches = ts }) c x) is_inner h) (λ i. record c { branches = is_outer i })

module _ (b : Builder) (x : Piece) (deed : Context → ℕ → Deed) (first second : Piece) (t : ℕ) where
  abbrev side_of : Bool → Test
  side_of taken = record { number = t; taken = taken }

  -- the points of both branches behind those of the test
  branches_added : (head : Scope) (lets : List LetPoint) → Good (served x deed) → Good first → t ≡ length b.points + x.size
      → (let context = context_at b head lets in
      with_points (with_points (with_points b context (served x deed)) (under t true context) first) (under t false context) second)
      ≡ with_points b (context_at b head lets) (branching x deed first second)
  branches_added head lets g f is =
      let context = context_at b head lets in
      let n = length b.points in
      let tested = (served x deed).points context n b.offs in
      let one = taken b.off x.offs b.offs in
      let two = taken b.off first.offs one in
      let yes = under (n + x.size) true context in
      let no = under (n + x.size) false context in
      let then_points = first.points yes (n + x.size + 1) one in
      let tested_length : length tested ≡ x.size + 1 = sized (served x deed) g context n b.offs in
      let then_length : length then_points ≡ first.size = sized first f yes (n + x.size + 1) one in
      let both_length : length (tested ++ then_points) ≡ length tested + length then_points = length-append tested then_points in
      (λ i. with_points (with_points (appending b tested one) (under (is i) true context) first) (under (is i) false context) second)
      ∙ (λ i. with_points (piece_appended b tested one (n + x.size + 1) yes first (omega (arith, tested_length)) i) no second)
      ∙ piece_appended b (tested ++ then_points) two (n + x.size + 1 + first.size) no second (omega (arith, tested_length, then_length, both_length))
      ∙ (λ i. appending b (tested ++ then_points ++ second.points no (n + x.size + 1 + first.size) (taken_both b.off x.offs first.offs b.offs i)) (taken b.off second.offs (taken_both b.off x.offs first.offs b.offs i)))
      ∙ (λ i. appending b (append_assoc tested then_points (second.points no (n + x.size + 1 + first.size) (taken b.off (x.offs + first.offs) b.offs)) i) (taken_both b.off (x.offs + first.offs) second.offs b.offs i))

  pub adds_branching : (c d e : Builder) → Good (served x deed) → Good first → Adds b c (served x deed) → t + 1 ≡ length c.points
      → AddsUnder (side_of true) c d first → AddsUnder (side_of false) d e second → Adds b e (branching x deed first second)
  adds_branching c d e g f h place k l =
      record {
        added = λ head lets.
            let context = context_at b head lets in
            let count : length c.points ≡ length b.points + (x.size + 1) = ap (λ z. length z.points) (h.added head lets) ∙ more_length b context (served x deed) g in
            l.added head lets
            ∙ (λ i. with_points (k.added head lets i) (under t false (context_at (k.added head lets i) head lets)) second)
            ∙ (λ i. with_points (with_points (h.added head lets i) (under t true (context_at (h.added head lets i) head lets)) first) (under t false (context_at (h.added head lets i) head lets)) second)
            ∙ branches_added head lets g f (omega (arith, place, count));
      }
