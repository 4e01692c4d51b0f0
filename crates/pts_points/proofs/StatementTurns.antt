-- How statements are added, each with its points and its call.
use Rattle.std.proofs.Common.{◌≡◌, ℕ, zero, suc, ◌+◌, ◌-◌, ◌<◌, ◌≤◌, Option, Some, None, List, [], ◌∷◌, ◌++◌, map, length, get_or, take, refl, sym, ap, subst, ◌∙◌, append_assoc, length-append, arith}
use Rattle.std.specs.Prelude.{flat_map}
use Rattle.std.proofs.lemmas.List.{take_all, take_more}
use Rattle.pts_types.specs.declared.operation.Policy.{Policy}
use Rattle.pts_tree.specs.declared.sum.Cell.{Cell}
use Rattle.pts_tree.specs.declared.expr.Expr.{Expr}
use Rattle.pts_rules.specs.Known.{Scope}
use Rattle.pts_rules.specs.Parts.{Simple, Throw, Assign, Call, Loop}
use Rattle.pts_points.specs.declared.builder.Builder.{Builder}
use Rattle.pts_points.specs.declared.point.CallInfo.{CallInfo}
use Rattle.pts_points.specs.declared.point.PointForm.TheVariants.{Write}
use Rattle.pts_points.specs.declared.space.IterationSpace.{IterationSpace}
use Rattle.pts_points.specs.Widths.{small}
use Rattle.pts_points.specs.Lines.{line_of_cell, no_loop}
use Rattle.pts_points.specs.Pieces.{taken}
use Rattle.pts_points.specs.Points.{array_at, reads_of, assign_piece, statement_piece, outside, context_of, calls_in, points_from, call_info, call_at, calls_from}
use Rattle.pts_points.specs.Building.{Adds, IsIdle, AreKept, AreAddable, branch_of, context_at, ended, kept_call, kept_info, kept_line, pushed_cell, with_points, with_statements, points_among, offs_among, calls_among}
use Rattle.pts_points.proofs.Wholes.{good_reads, good_statement}
use Rattle.pts_points.proofs.PointLists.{numbered_from, length_is}
use Rattle.pts_points.proofs.Builds.{adds_served, append_nothing, map_both, map_length, more_length}

-- ---- one statement

idle_context : (b : Builder) (k : Option ℕ) (head : Scope) → IsIdle b → context_at (record b { call = k }) head [] ≡ outside k head
idle_context b k head idle = λ i. record { call = k; branches = ap (map branch_of) idle.branches i; off = idle.off i; head = head; lets = [] }

idle_offs : (b : Builder) (k : ℕ) → IsIdle b → taken b.off k b.offs ≡ b.offs + (k + 0)
idle_offs b k idle = ap (λ o. taken o k b.offs) idle.off ∙ omega arith

behind_it : (n k : ℕ) → n + k - n ≡ k
behind_it n k = omega arith

-- a call or a loop at its end
pub call_done : (scope : Scope) (b c d : Builder) (x : Simple) (space : IterationSpace) (head : Scope) (policy : Policy) (count positions : ℕ) → IsIdle b
    → context_of scope (b.earlier + length b.calls) x ≡ outside (Some (b.earlier + length b.calls)) head
    → call_at scope b.item (length b.points) x ≡ call_info b.item policy count (length b.points) (statement_piece scope x).size
    → positions ≡ small count → Adds (record b { call = Some (b.earlier + length b.calls); space = space }) c (statement_piece scope x)
    → d ≡ ended c policy positions (length b.points) → d ≡ with_statements scope b (x ∷ [])
call_done scope b c d x space head policy count positions idle placed called are h e =
    let y = statement_piece scope x in
    let k = b.earlier + length b.calls in
    let n = length b.points in
    let inner = record b { call = Some k; space = space } in
    let context = context_at inner head [] in
    let own = y.points context n b.offs in
    let more = more_length inner context y (good_statement scope x) in
    let shown : own ≡ y.points (context_of scope k x) n b.offs ++ [] = ap (λ z. y.points z n b.offs) (idle_context b (Some k) head idle ∙ sym placed) ∙ sym (append_nothing (y.points (context_of scope k x) n b.offs)) in
    let info : CallInfo → List CallInfo = λ z. z ∷ [] in
    let listed : map kept_call (call_at scope b.item n x ++ []) ≡ record { item = b.item; policy = policy; positions = small count; first_point = small n; points = small y.size } ∷ [] =
    ap (map kept_call) (append_nothing (call_at scope b.item n x) ∙ called) in
    e
    ∙ (λ i. ended (h.added head [] i) policy (are i) n)
    ∙ (λ i. record (with_points inner context y) {
      call = None;
      space = no_loop;
      calls = b.calls ++ record { item = b.item; policy = policy; positions = small count; first_point = small n; points = small ((ap (λ z. z - n) more ∙ behind_it n y.size) i) } ∷ [];
    })
    ∙ (λ i. record b {
      call = sym idle.call i;
      space = sym idle.space i;
      points = b.points ++ map (kept_info b.item) (shown i);
      calls = b.calls ++ sym listed i;
      offs = idle_offs b y.offs idle i;
    })

-- an assignment of a block
pub assign_done : (scope : Scope) (b c d : Builder) (at : Cell) (x : Expr) → IsIdle b → Adds b c (reads_of scope b.space x) → d ≡ pushed_cell scope c Write at
    → d ≡ with_statements scope b (Assign at x ∷ [])
assign_done scope b c d at x idle h e =
    let y = assign_piece scope at x in
    let n = length b.points in
    let context = context_at b scope [] in
    let reads : Adds b c (reads_of scope no_loop x) = subst (λ s. Adds b c (reads_of scope s x)) idle.space h in
    let all : Adds b d y =
    adds_served b c d (reads_of scope no_loop x) _ Write (small (array_at scope at.array)) (kept_line (line_of_cell scope at)) (good_reads scope no_loop x)
    (record { same_form = λ context n. refl; same_array = λ context n. refl; same_line = λ context n. refl }) reads e in
    let bare : context ≡ outside None scope = (λ i. record { call = idle.call i; branches = ap (map branch_of) idle.branches i; off = idle.off i; head = scope; lets = [] }) in
    let shown : y.points context n b.offs ≡ y.points (outside None scope) n b.offs ++ [] = ap (λ z. y.points z n b.offs) bare ∙ sym (append_nothing (y.points (outside None scope) n b.offs)) in
    all.added scope []
    ∙ (λ i. record b {
      points = b.points ++ map (kept_info b.item) (shown i);
      calls = sym (append_nothing b.calls) i;
      offs = idle_offs b y.offs idle i;
    })

-- ---- statements behind statements

points_both : (scope : Scope) (n m c : ℕ) (xs ys : List Simple)
    → points_from scope n m c (xs ++ ys) ≡ points_from scope n m c xs ++ points_from scope (n + points_among scope xs) (m + offs_among scope xs) (c + calls_among xs) ys
points_both scope n m c [] ys = λ i. points_from scope (none n i) (none m i) (none c i) ys
  where
    none : (k : ℕ) → k ≡ k + 0
    none k = omega arith
points_both scope n m c (x ∷ xs) ys =
    let own = statement_piece scope x in
    let rest = points_from scope (n + own.size) (m + own.offs) (c + calls_in x) xs in
    (λ i. own.points (context_of scope c x) n m ++ (points_both scope (n + own.size) (m + own.offs) (c + calls_in x) xs ys
    ∙ (λ j. rest ++ points_from scope (sum_of n own.size (points_among scope xs) j) (sum_of m own.offs (offs_among scope xs) j) (sum_of c (calls_in x) (calls_among xs) j) ys)) i)
    ∙ sym (append_assoc (own.points (context_of scope c x) n m) rest (points_from scope (n + (own.size + points_among scope xs)) (m + (own.offs + offs_among scope xs)) (c + (calls_in x + calls_among xs)) ys))
  where
    sum_of : (a b k : ℕ) → a + b + k ≡ a + (b + k)
    sum_of a b k = omega arith

calls_both : (scope : Scope) (item n : ℕ) (xs ys : List Simple) → calls_from scope item n (xs ++ ys) ≡ calls_from scope item n xs ++ calls_from scope item (n + points_among scope xs) ys
calls_both scope item n [] ys = let same : n ≡ n + 0 = omega arith in ap (λ k. calls_from scope item k ys) same
calls_both scope item n (x ∷ xs) ys =
    let size = (statement_piece scope x).size in
    let rest = calls_from scope item (n + size) xs in
    let same : n + size + points_among scope xs ≡ n + (size + points_among scope xs) = omega arith in
    (λ i. call_at scope item n x ++ (calls_both scope item (n + size) xs ys ∙ ap (λ k. rest ++ calls_from scope item k ys) same) i)
    ∙ sym (append_assoc (call_at scope item n x) rest (calls_from scope item (n + (size + points_among scope xs)) ys))

offs_both : (scope : Scope) (xs ys : List Simple) → offs_among scope (xs ++ ys) ≡ offs_among scope xs + offs_among scope ys
offs_both scope [] ys = omega arith
offs_both scope (x ∷ xs) ys = let h = offs_both scope xs ys in omega (arith, h)

call_count : (scope : Scope) (item n : ℕ) (x : Simple) → length (call_at scope item n x) ≡ calls_in x
call_count scope item n (Throw code) = refl
call_count scope item n (Assign at x) = refl
call_count scope item n (Call x) = refl
call_count scope item n (Loop x) = refl

pub calls_count : (scope : Scope) (item n : ℕ) (xs : List Simple) → length (calls_from scope item n xs) ≡ calls_among xs
calls_count scope item n [] = refl
calls_count scope item n (x ∷ xs) =
    let own = call_count scope item n x in
    let rest = calls_count scope item (n + (statement_piece scope x).size) xs in
    let all = length-append (call_at scope item n x) (calls_from scope item (n + (statement_piece scope x).size) xs) in
    omega (arith, own, rest, all)

pub points_count : (scope : Scope) (n m c : ℕ) (xs : List Simple) → length (points_from scope n m c xs) ≡ points_among scope xs
points_count scope n m c xs = let h = length_is n (n + points_among scope xs) (points_from scope n m c xs) (numbered_from scope n m c xs) in omega (arith, h)

with_length : (scope : Scope) (b : Builder) (xs : List Simple) → length (with_statements scope b xs).points ≡ length b.points + points_among scope xs
with_length scope b xs =
    length-append b.points (map (kept_info b.item) (points_from scope (length b.points) b.offs (b.earlier + length b.calls) xs))
    ∙ ap (λ k. length b.points + k) (map_length (kept_info b.item) (points_from scope (length b.points) b.offs (b.earlier + length b.calls) xs) ∙ points_count scope (length b.points) b.offs (b.earlier + length b.calls) xs)

with_calls : (scope : Scope) (b : Builder) (xs : List Simple) → length (with_statements scope b xs).calls ≡ length b.calls + calls_among xs
with_calls scope b xs =
    length-append b.calls (map kept_call (calls_from scope b.item (length b.points) xs))
    ∙ ap (λ k. length b.calls + k) (map_length kept_call (calls_from scope b.item (length b.points) xs) ∙ calls_count scope b.item (length b.points) xs)

pub with_none : (scope : Scope) (b : Builder) → b ≡ with_statements scope b []
with_none scope b = λ i. record b { points = sym (append_nothing b.points) i; calls = sym (append_nothing b.calls) i; offs = none b.offs i }
  where
    none : (k : ℕ) → k ≡ k + 0
    none k = omega arith

pub with_both : (scope : Scope) (b : Builder) (xs ys : List Simple) → with_statements scope (with_statements scope b xs) ys ≡ with_statements scope b (xs ++ ys)
with_both scope b xs ys =
    let n = length b.points in
    let c = b.earlier + length b.calls in
    let first = points_from scope n b.offs c xs in
    let called = calls_from scope b.item n xs in
    let m = b.offs + offs_among scope xs in
    let counted : b.earlier + length (with_statements scope b xs).calls ≡ c + calls_among xs = let h = with_calls scope b xs in omega (arith, h) in
    let all_offs : m + offs_among scope ys ≡ b.offs + offs_among scope (xs ++ ys) = let h = offs_both scope xs ys in omega (arith, h) in
    (λ i. record (with_statements scope b xs) {
      points = (with_statements scope b xs).points ++ map (kept_info b.item) (points_from scope (with_length scope b xs i) m (counted i) ys);
      calls = (with_statements scope b xs).calls ++ map kept_call (calls_from scope b.item (with_length scope b xs i) ys);
      offs = m + offs_among scope ys;
    })
    ∙ (λ i. record b {
      points = (append_assoc b.points (map (kept_info b.item) first) (map (kept_info b.item) (points_from scope (n + points_among scope xs) m (c + calls_among xs) ys))
          ∙ ap (λ zs. b.points ++ zs) (sym (map_both (kept_info b.item) first (points_from scope (n + points_among scope xs) m (c + calls_among xs) ys)) ∙ ap (map (kept_info b.item)) (sym (points_both scope n b.offs c xs ys)))) i;
      calls = (append_assoc b.calls (map kept_call called) (map kept_call (calls_from scope b.item (n + points_among scope xs) ys))
          ∙ ap (λ zs. b.calls ++ zs) (sym (map_both kept_call called (calls_from scope b.item (n + points_among scope xs) ys)) ∙ ap (map kept_call) (sym (calls_both scope b.item n xs ys)))) i;
      offs = all_offs i;
    })

-- ---- room

kept_front : (scope : Scope) (xs ys : List Simple) → AreKept scope (xs ++ ys) → AreKept scope xs
kept_front scope [] ys h = tt
kept_front scope (x ∷ xs) ys h = (h.0, kept_front scope xs ys h.1)

kept_back : (scope : Scope) (xs ys : List Simple) → AreKept scope (xs ++ ys) → AreKept scope ys
kept_back scope [] ys h = h
kept_back scope (x ∷ xs) ys h = kept_back scope xs ys h.1

pub room_front : (scope : Scope) (b : Builder) (xs ys : List Simple) → AreAddable scope b (xs ++ ys) → AreAddable scope b xs
room_front scope b xs ys h =
    record {
      idle = h.idle;
      kept = kept_front scope xs ys h.kept;
    }

pub room_back : (scope : Scope) (b : Builder) (xs ys : List Simple) → AreAddable scope b (xs ++ ys) → AreAddable scope (with_statements scope b xs) ys
room_back scope b xs ys h =
    record {
      idle = record { call = h.idle.call; branches = h.idle.branches; off = h.idle.off; space = h.idle.space };
      kept = kept_back scope xs ys h.kept;
    }

-- ---- turns

module _ {A : Type 0} (f : A → List Simple) (scope : Scope) where
  pub statements_turn : (b c d : Builder) (xs : List A) (at : ℕ) (x : A) → at < length xs → x ≡ get_or xs at x → c ≡ with_statements scope b (flat_map f (take at xs))
      → d ≡ with_statements scope c (f x) → d ≡ with_statements scope b (flat_map f (take (at + 1) xs))
  statements_turn b c d xs at x within is h k =
      k
      ∙ (λ i. with_statements scope (h i) (f x))
      ∙ with_both scope b (flat_map f (take at xs)) (f x)
      ∙ ap (with_statements scope b) (sym (ap (flat_map f) (take_more xs at x within ∙ ap (λ y. take at xs ++ y ∷ []) (sym is)) ∙ last_of (take at xs) x))
    where
      last_of : (ys : List A) (y : A) → flat_map f (ys ++ y ∷ []) ≡ flat_map f ys ++ f y
      last_of [] y = append_nothing (f y)
      last_of (z ∷ zs) y = ap (λ us. f z ++ us) (last_of zs y) ∙ sym (append_assoc (f z) (flat_map f zs) (f y))

  pub statements_all : (b c : Builder) (xs : List A) (at : ℕ) → length xs ≤ at → c ≡ with_statements scope b (flat_map f (take at xs)) → c ≡ with_statements scope b (flat_map f xs)
  statements_all b c xs at past h = subst (λ ys. c ≡ with_statements scope b (flat_map f ys)) (take_all at xs past) h

  room_at : (b : Builder) (xs : List A) (at : ℕ) (x : A) → at < length xs → x ≡ get_or xs at x → AreAddable scope b (flat_map f xs)
      → AreAddable scope (with_statements scope b (flat_map f (take at xs))) (f x)
  room_at b [] at x within is room = absurd (omega (arith, within))
  room_at b (y ∷ ys) zero x within is room =
      subst (λ z. AreAddable scope z (f x)) (with_none scope b) (subst (λ z. AreAddable scope b (f z)) (sym is) (room_front scope b (f y) (flat_map f ys) room))
  room_at b (y ∷ ys) (suc at) x within is room =
      subst (λ z. AreAddable scope z (f x)) (with_both scope b (f y) (flat_map f (take at ys)))
      (room_at (with_statements scope b (f y)) ys at x (omega (arith, within)) is (room_back scope b (f y) (flat_map f ys) room))

  pub room_for_task : (b c : Builder) (xs : List A) (at : ℕ) (x : A) → at < length xs → x ≡ get_or xs at x → c ≡ with_statements scope b (flat_map f (take at xs))
      → AreAddable scope b (flat_map f xs) → AreAddable scope c (f x)
  room_for_task b c xs at x within is h room = subst (λ z. AreAddable scope z (f x)) (sym h) (room_at b xs at x within is room)
