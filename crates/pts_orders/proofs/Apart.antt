-- Evaluations that are apart: either may go first, and one does the same with the changes of the other and without them.
use Rattle.std.proofs.Common.{◌≡◌, ◌≢◌, Bool, true, false, Some, None, List, [], ◌∷◌, get_or, set, refl, ap, sym, ◌∙◌, subst, get_or-set_other}
use Rattle.std.proofs.lemmas.List.{set_comm}
use Rattle.std.specs.Option.{option_and_then, option_map}
use Rattle.pts_orders.specs.Evaluations.{Evaluation, Each}
use Rattle.pts_orders.specs.Effects.{Cells, Locals, Effect, State, Skips, Throws, Notes, Puts, locals_at, made, applied, effect_at, step_of, TouchLaw, AreApart, Change, with_change}
use Rattle.pts_orders.specs.Parts.{IsUnmoved, IsBeside}
use Rattle.pts_orders.specs.Runs.{Commute}

module _ {M C V L N : Type 0} (cells : Cells M C V) (notes : Locals L N) where
  -- effects of two positions that put no common cell may be made in either order
  made_comm : (x y : Evaluation) (e f : Effect C V N) → x.position ≢ y.position
      → ((c d : C) (v w : V) → e ≡ Puts c v → f ≡ Puts d w → c ≢ d)
      → (s : State M L) → made cells notes y f (made cells notes x e s) ≡ made cells notes x e (made cells notes y f s)
  made_comm x y Skips f apart h s = refl
  made_comm x y Throws f apart h s = refl
  made_comm x y (Notes n) Skips apart h s = refl
  made_comm x y (Notes n) Throws apart h s = refl
  made_comm x y (Notes n) (Puts d w) apart h s = refl
  made_comm x y (Notes n) (Notes o) apart h s =
      let a : L = notes.noted (locals_at notes s x.position) x.point n in
      let b : L = notes.noted (locals_at notes s y.position) y.point o in
      let here : get_or (set s.locals x.position a) y.position notes.nothing ≡ get_or s.locals y.position notes.nothing =
      get_or-set_other s.locals x.position y.position a notes.nothing (λ e. apart (sym e)) in
      let there : get_or (set s.locals y.position b) x.position notes.nothing ≡ get_or s.locals x.position notes.nothing =
      get_or-set_other s.locals y.position x.position b notes.nothing apart in
      ap (λ l. record s { locals = l })
      (ap (λ l. set (set s.locals x.position a) y.position (notes.noted l y.point o)) here
      ∙ set_comm s.locals x.position y.position a b apart
      ∙ ap (λ l. set (set s.locals y.position b) x.position (notes.noted l x.point n)) (sym there))
  made_comm x y (Puts c v) Skips apart h s = refl
  made_comm x y (Puts c v) Throws apart h s = refl
  made_comm x y (Puts c v) (Notes o) apart h s = refl
  made_comm x y (Puts c v) (Puts d w) apart h s =
      ap (λ m. record s { memory = m }) (cells.swaps s.memory c d v w (h c d v w refl refl))

  module _ (effect : Evaluation → L → M → Effect C V N) (Touches : Evaluation → C → Type 0) (writes : Evaluation → Bool)
      (law : TouchLaw cells effect Touches writes) where
    -- what an effect of x changes, y does not see
    still : (x y : Evaluation) (e : Effect C V N) → AreApart Touches writes x y
        → ((c : C) (v : V) → e ≡ Puts c v → Touches x c × (writes x ≡ true))
        → (s : State M L) → effect_at notes effect y (made cells notes x e s) ≡ effect_at notes effect y s
    still x y Skips apart h s = refl
    still x y Throws apart h s = refl
    still x y (Notes n) apart h s =
        ap (λ l. effect y l s.memory)
        (get_or-set_other s.locals x.position y.position (notes.noted (locals_at notes s x.position) x.point n) notes.nothing (λ e. apart.positions (sym e)))
    still x y (Puts c v) apart h s =
        let own = h c v refl in
        law.reads y (locals_at notes s y.position) s.memory (cells.put s.memory c v) (λ d touched.
        cells.others s.memory c d v (λ same.
        let no : writes x ≡ false = apart.first d (subst (Touches x) same own.0) touched in
        let clash : true ≡ false = sym own.1 ∙ no in
        absurd cc))

    -- so y does the same with it and without it
    unmoved : (x y : Evaluation) (e : Effect C V N) → AreApart Touches writes x y
        → ((c : C) (v : V) → e ≡ Puts c v → Touches x c × (writes x ≡ true))
        → IsUnmoved (step_of cells notes effect) (made cells notes x e) y
    unmoved x y e apart h s =
        ap (λ f. applied cells notes y f (made cells notes x e s)) (still x y e apart h s)
        ∙ by (effect_at notes effect y s) refl
      where
        different : (f : Effect C V N) → effect_at notes effect y s ≡ f → (c d : C) (v w : V) → e ≡ Puts c v → f ≡ Puts d w → c ≢ d
        different f p c d v w a b same =
            let one = h c v a in
            let two = law.puts y (locals_at notes s y.position) s.memory d w (p ∙ b) in
            let no : writes x ≡ false = apart.first d (subst (Touches x) same one.0) two.0 in
            let clash : true ≡ false = sym one.1 ∙ no in
            absurd cc

        by : (f : Effect C V N) → effect_at notes effect y s ≡ f
            → applied cells notes y f (made cells notes x e s) ≡ option_map (made cells notes x e) (applied cells notes y f s)
        by Throws p = refl
        by Skips p = refl
        by (Notes o) p = ap Some (made_comm x y e (Notes o) apart.positions (different (Notes o) p) s)
        by (Puts d w) p = ap Some (made_comm x y e (Puts d w) apart.positions (different (Puts d w) p) s)

    turned : (x y : Evaluation) → AreApart Touches writes x y → AreApart Touches writes y x
    turned x y apart = record {
      positions = λ e. apart.positions (sym e);
      first = λ c a b. apart.second c b a;
      second = λ c a b. apart.first c b a;
    }

    -- what x does in a state is a throw, or a change that y is not moved by
    pub beside : (x : Evaluation) (others : List Evaluation) → Each (AreApart Touches writes x) others
        → IsBeside (step_of cells notes effect) (with_change cells notes) others x
    beside x others apart s t e = by (effect_at notes effect x s) refl
      where
        each : (f : Effect C V N) → effect_at notes effect x s ≡ f → (ys : List Evaluation) → Each (AreApart Touches writes x) ys
            → Each (IsUnmoved (step_of cells notes effect) (made cells notes x f)) ys
        each f p [] h = tt
        each f p (y ∷ ys) h =
            (unmoved x y f h.0 (λ c v a. law.puts x (locals_at notes s x.position) s.memory c v (p ∙ a)), each f p ys h.1)

        by : (f : Effect C V N) → effect_at notes effect x s ≡ f
            → (c : Change C V N) × (t ≡ with_change cells notes c s) × Each (IsUnmoved (step_of cells notes effect) (with_change cells notes c)) others
        by Throws p = let no : None ≡ Some t = sym (ap (λ f. applied cells notes x f s) p) ∙ e in absurd cc
        by Skips p =
            let q : Some s ≡ Some t = sym (ap (λ f. applied cells notes x f s) p) ∙ e in
            (record { maker = x; effect = Skips }, (let r : t ≡ s = cc in r), each Skips p others apart)
        by (Notes n) p =
            let q : Some (made cells notes x (Notes n) s) ≡ Some t = sym (ap (λ f. applied cells notes x f s) p) ∙ e in
            (record { maker = x; effect = Notes n }, (let r : t ≡ made cells notes x (Notes n) s = cc in r), each (Notes n) p others apart)
        by (Puts c v) p =
            let q : Some (made cells notes x (Puts c v) s) ≡ Some t = sym (ap (λ f. applied cells notes x f s) p) ∙ e in
            (record { maker = x; effect = Puts c v }, (let r : t ≡ made cells notes x (Puts c v) s = cc in r), each (Puts c v) p others apart)

    -- two that are apart may be swapped
    pub commute : (x y : Evaluation) → AreApart Touches writes x y → Commute (step_of cells notes effect) x y
    commute x y apart s = by (effect_at notes effect x s) refl (effect_at notes effect y s) refl
      where
        own : (z : Evaluation) (e : Effect C V N) → effect_at notes effect z s ≡ e → (c : C) (v : V) → e ≡ Puts c v → Touches z c × (writes z ≡ true)
        own z e p c v a = law.puts z (locals_at notes s z.position) s.memory c v (p ∙ a)

        does : (z : Evaluation) (e : Effect C V N) → effect_at notes effect z s ≡ e → step_of cells notes effect z s ≡ applied cells notes z e s
        does z e p = ap (λ f. applied cells notes z f s) p

        both : (e f : Effect C V N) → effect_at notes effect x s ≡ e → effect_at notes effect y s ≡ f
            → applied cells notes x e s ≡ Some (made cells notes x e s) → applied cells notes y f s ≡ Some (made cells notes y f s)
            → option_and_then (step_of cells notes effect y) (step_of cells notes effect x s)
            ≡ option_and_then (step_of cells notes effect x) (step_of cells notes effect y s)
        both e f p q a b =
            let different : (c d : C) (v w : V) → e ≡ Puts c v → f ≡ Puts d w → c ≢ d = λ c d v w g h same.
            let one = own x e p c v g in
            let two = own y f q d w h in
            let no : writes x ≡ false = apart.first d (subst (Touches x) same one.0) two.0 in
            let clash : true ≡ false = sym one.1 ∙ no in
            absurd cc in
            ap (option_and_then (step_of cells notes effect y)) (does x e p ∙ a)
            ∙ unmoved x y e apart (own x e p) s ∙ ap (option_map (made cells notes x e)) (does y f q ∙ b)
            ∙ ap Some (sym (made_comm x y e f apart.positions different s))
            ∙ sym (ap (option_and_then (step_of cells notes effect x)) (does y f q ∙ b)
            ∙ unmoved y x f (turned x y apart) (own y f q) s ∙ ap (option_map (made cells notes y f)) (does x e p ∙ a))

        left : (f : Effect C V N) → effect_at notes effect x s ≡ Throws → effect_at notes effect y s ≡ f
            → option_and_then (step_of cells notes effect y) (step_of cells notes effect x s)
            ≡ option_and_then (step_of cells notes effect x) (step_of cells notes effect y s)
        left f p q =
            ap (option_and_then (step_of cells notes effect y)) (does x Throws p) ∙ sym (ap (option_and_then (step_of cells notes effect x)) (does y f q) ∙ rest f q)
          where
            on : (g : Effect C V N) → effect_at notes effect y s ≡ g → step_of cells notes effect x (made cells notes y g s) ≡ None
            on g r = unmoved y x g (turned x y apart) (own y g r) s ∙ ap (option_map (made cells notes y g)) (does x Throws p)

            rest : (g : Effect C V N) → effect_at notes effect y s ≡ g → option_and_then (step_of cells notes effect x) (applied cells notes y g s) ≡ None
            rest Throws r = refl
            rest Skips r = on Skips r
            rest (Notes o) r = on (Notes o) r
            rest (Puts d w) r = on (Puts d w) r

        right : (e : Effect C V N) → effect_at notes effect x s ≡ e → effect_at notes effect y s ≡ Throws
            → applied cells notes x e s ≡ Some (made cells notes x e s)
            → option_and_then (step_of cells notes effect y) (step_of cells notes effect x s)
            ≡ option_and_then (step_of cells notes effect x) (step_of cells notes effect y s)
        right e p q a =
            ap (option_and_then (step_of cells notes effect y)) (does x e p ∙ a)
            ∙ unmoved x y e apart (own x e p) s ∙ ap (option_map (made cells notes x e)) (does y Throws q)
            ∙ sym (ap (option_and_then (step_of cells notes effect x)) (does y Throws q))

        by : (e : Effect C V N) → effect_at notes effect x s ≡ e → (f : Effect C V N) → effect_at notes effect y s ≡ f
            → option_and_then (step_of cells notes effect y) (step_of cells notes effect x s)
            ≡ option_and_then (step_of cells notes effect x) (step_of cells notes effect y s)
        by Throws p f q = left f p q
        by Skips p Throws q = right Skips p q refl
        by Skips p Skips q = both Skips Skips p q refl refl
        by Skips p (Notes o) q = both Skips (Notes o) p q refl refl
        by Skips p (Puts d w) q = both Skips (Puts d w) p q refl refl
        by (Notes n) p Throws q = right (Notes n) p q refl
        by (Notes n) p Skips q = both (Notes n) Skips p q refl refl
        by (Notes n) p (Notes o) q = both (Notes n) (Notes o) p q refl refl
        by (Notes n) p (Puts d w) q = both (Notes n) (Puts d w) p q refl refl
        by (Puts c v) p Throws q = right (Puts c v) p q refl
        by (Puts c v) p Skips q = both (Puts c v) Skips p q refl refl
        by (Puts c v) p (Notes o) q = both (Puts c v) (Notes o) p q refl refl
        by (Puts c v) p (Puts d w) q = both (Puts c v) (Puts d w) p q refl refl
