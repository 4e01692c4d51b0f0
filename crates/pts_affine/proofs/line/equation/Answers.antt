use Rattle.std.proofs.Common.{◌≡◌, arith, rules, w64, SFits}
use Rattle.std.specs.Prelude.{unsigned_abs}
use Rattle.pts_affine.proofs.Cells.{small-start}
use Rattle.pts_affine.proofs.LineEquations.{abs_of, is-negative, not-negative, is-positive, not-positive, small-across, small-straight, small-crossed, small-first, small-second, rising, crossed, first-turned, second-turned}
use Rattle.pts_affine.proofs.line.equation.Goals as goal

pub overflow_add-result-then-y-lt0 : goal.overflow_add-result-then-y-lt0
overflow_add-result-then-y-lt0 c =
    let x = c.args.x in
    let y = c.args.y in
    let fits_y : SFits w64 y.c = search rules in
    let b : c.unsigned_abs-b.result ≡ unsigned_abs y.c = abs_of y.c _ fits_y c.unsigned_abs-b.ensures.value in
    let u : c.unsigned_abs-u.result ≡ unsigned_abs x.d = abs_of x.d _ (search rules) c.unsigned_abs-u.ensures.value in
    rw (b, u, c.from-m.ensures) (omega (arith, small-across x y c.args.after c.requires.x c.requires.y c.requires.first c.requires.second, small-start x c.requires.x c.requires.first))

pub returns-then-y-gt0-clause-small : goal.returns-then-y-gt0-clause-small
returns-then-y-gt0-clause-small c =
    let x = c.args.x in
    let y = c.args.y in
    let fits_x : SFits w64 x.c = search rules in
    let fits_y : SFits w64 y.c = search rules in
    let a : c.unsigned_abs-a.result ≡ unsigned_abs x.c = abs_of x.c _ fits_x c.unsigned_abs-a.ensures.value in
    let b : c.unsigned_abs-b.result ≡ unsigned_abs y.c = abs_of y.c _ fits_y c.unsigned_abs-b.ensures.value in
    let u : c.unsigned_abs-u.result ≡ unsigned_abs x.d = abs_of x.d _ (search rules) c.unsigned_abs-u.ensures.value in
    let v : c.unsigned_abs-v.result ≡ unsigned_abs y.d = abs_of y.d _ (search rules) c.unsigned_abs-v.ensures.value in
    rw (a, b, u, v, c.from-n.ensures, c.from-m.ensures) (small-first x y c.args.after c.requires.x c.requires.y c.requires.first c.requires.second)

pub returns-then-y-gt0-clause-same : goal.returns-then-y-gt0-clause-same
returns-then-y-gt0-clause-same c = λ p q h.
    let x = c.args.x in
    let y = c.args.y in
    let fits_x : SFits w64 x.c = search rules in
    let fits_y : SFits w64 y.c = search rules in
    let a : c.unsigned_abs-a.result ≡ unsigned_abs x.c = abs_of x.c _ fits_x c.unsigned_abs-a.ensures.value in
    let b : c.unsigned_abs-b.result ≡ unsigned_abs y.c = abs_of y.c _ fits_y c.unsigned_abs-b.ensures.value in
    let u : c.unsigned_abs-u.result ≡ unsigned_abs x.d = abs_of x.d _ (search rules) c.unsigned_abs-u.ensures.value in
    let v : c.unsigned_abs-v.result ≡ unsigned_abs y.d = abs_of y.d _ (search rules) c.unsigned_abs-v.ensures.value in
    rw (a, b, u, v, c.from-n.ensures, c.from-m.ensures) (first-turned x y c.args.after c.requires.x c.requires.y c.requires.first c.requires.second p q h (is-negative x.c fits_x c.if-x-lt0.true) (is-positive y.c fits_y c.if-y-gt0.true))

pub returns-else-y-gt0-clause-small : goal.returns-else-y-gt0-clause-small
returns-else-y-gt0-clause-small c =
    let x = c.args.x in
    let y = c.args.y in
    let fits_x : SFits w64 x.c = search rules in
    let fits_y : SFits w64 y.c = search rules in
    let a : c.unsigned_abs-a.result ≡ unsigned_abs x.c = abs_of x.c _ fits_x c.unsigned_abs-a.ensures.value in
    let b : c.unsigned_abs-b.result ≡ unsigned_abs y.c = abs_of y.c _ fits_y c.unsigned_abs-b.ensures.value in
    let u : c.unsigned_abs-u.result ≡ unsigned_abs x.d = abs_of x.d _ (search rules) c.unsigned_abs-u.ensures.value in
    let v : c.unsigned_abs-v.result ≡ unsigned_abs y.d = abs_of y.d _ (search rules) c.unsigned_abs-v.ensures.value in
    rw (a, b, u, v, c.from-n.ensures, c.from-m.ensures) (small-crossed x y c.args.after c.requires.x c.requires.y c.requires.first c.requires.second)

pub returns-else-y-gt0-clause-same : goal.returns-else-y-gt0-clause-same
returns-else-y-gt0-clause-same c = λ p q h.
    let x = c.args.x in
    let y = c.args.y in
    let fits_x : SFits w64 x.c = search rules in
    let fits_y : SFits w64 y.c = search rules in
    let a : c.unsigned_abs-a.result ≡ unsigned_abs x.c = abs_of x.c _ fits_x c.unsigned_abs-a.ensures.value in
    let b : c.unsigned_abs-b.result ≡ unsigned_abs y.c = abs_of y.c _ fits_y c.unsigned_abs-b.ensures.value in
    let u : c.unsigned_abs-u.result ≡ unsigned_abs x.d = abs_of x.d _ (search rules) c.unsigned_abs-u.ensures.value in
    let v : c.unsigned_abs-v.result ≡ unsigned_abs y.d = abs_of y.d _ (search rules) c.unsigned_abs-v.ensures.value in
    rw (a, b, u, v, c.from-n.ensures, c.from-m.ensures) (crossed x y c.args.after c.requires.x c.requires.y c.requires.first c.requires.second p q h (is-negative x.c fits_x c.if-x-lt0.true) (not-positive y.c fits_y c.if-y-gt0.false))

pub returns-then-y-lt0-clause-small : goal.returns-then-y-lt0-clause-small
returns-then-y-lt0-clause-small c =
    let x = c.args.x in
    let y = c.args.y in
    let fits_x : SFits w64 x.c = search rules in
    let fits_y : SFits w64 y.c = search rules in
    let a : c.unsigned_abs-a.result ≡ unsigned_abs x.c = abs_of x.c _ fits_x c.unsigned_abs-a.ensures.value in
    let b : c.unsigned_abs-b.result ≡ unsigned_abs y.c = abs_of y.c _ fits_y c.unsigned_abs-b.ensures.value in
    let u : c.unsigned_abs-u.result ≡ unsigned_abs x.d = abs_of x.d _ (search rules) c.unsigned_abs-u.ensures.value in
    let v : c.unsigned_abs-v.result ≡ unsigned_abs y.d = abs_of y.d _ (search rules) c.unsigned_abs-v.ensures.value in
    rw (a, b, u, v, c.from-n.ensures, c.from-m.ensures) (small-second x y c.args.after c.requires.x c.requires.y c.requires.first c.requires.second)

pub returns-then-y-lt0-clause-same : goal.returns-then-y-lt0-clause-same
returns-then-y-lt0-clause-same c = λ p q h.
    let x = c.args.x in
    let y = c.args.y in
    let fits_x : SFits w64 x.c = search rules in
    let fits_y : SFits w64 y.c = search rules in
    let a : c.unsigned_abs-a.result ≡ unsigned_abs x.c = abs_of x.c _ fits_x c.unsigned_abs-a.ensures.value in
    let b : c.unsigned_abs-b.result ≡ unsigned_abs y.c = abs_of y.c _ fits_y c.unsigned_abs-b.ensures.value in
    let u : c.unsigned_abs-u.result ≡ unsigned_abs x.d = abs_of x.d _ (search rules) c.unsigned_abs-u.ensures.value in
    let v : c.unsigned_abs-v.result ≡ unsigned_abs y.d = abs_of y.d _ (search rules) c.unsigned_abs-v.ensures.value in
    rw (a, b, u, v, c.from-n.ensures, c.from-m.ensures) (second-turned x y c.args.after c.requires.x c.requires.y c.requires.first c.requires.second p q h (not-negative x.c fits_x c.if-x-lt0.false) (is-negative y.c fits_y c.if-y-lt0.true))

pub returns-else-y-lt0-clause-small : goal.returns-else-y-lt0-clause-small
returns-else-y-lt0-clause-small c =
    let x = c.args.x in
    let y = c.args.y in
    let fits_x : SFits w64 x.c = search rules in
    let fits_y : SFits w64 y.c = search rules in
    let a : c.unsigned_abs-a.result ≡ unsigned_abs x.c = abs_of x.c _ fits_x c.unsigned_abs-a.ensures.value in
    let b : c.unsigned_abs-b.result ≡ unsigned_abs y.c = abs_of y.c _ fits_y c.unsigned_abs-b.ensures.value in
    let u : c.unsigned_abs-u.result ≡ unsigned_abs x.d = abs_of x.d _ (search rules) c.unsigned_abs-u.ensures.value in
    let v : c.unsigned_abs-v.result ≡ unsigned_abs y.d = abs_of y.d _ (search rules) c.unsigned_abs-v.ensures.value in
    rw (a, b, u, v, c.from-n.ensures, c.from-m.ensures) (small-straight x y c.args.after c.requires.x c.requires.y c.requires.first c.requires.second)

pub returns-else-y-lt0-clause-same : goal.returns-else-y-lt0-clause-same
returns-else-y-lt0-clause-same c = λ p q h.
    let x = c.args.x in
    let y = c.args.y in
    let fits_x : SFits w64 x.c = search rules in
    let fits_y : SFits w64 y.c = search rules in
    let a : c.unsigned_abs-a.result ≡ unsigned_abs x.c = abs_of x.c _ fits_x c.unsigned_abs-a.ensures.value in
    let b : c.unsigned_abs-b.result ≡ unsigned_abs y.c = abs_of y.c _ fits_y c.unsigned_abs-b.ensures.value in
    let u : c.unsigned_abs-u.result ≡ unsigned_abs x.d = abs_of x.d _ (search rules) c.unsigned_abs-u.ensures.value in
    let v : c.unsigned_abs-v.result ≡ unsigned_abs y.d = abs_of y.d _ (search rules) c.unsigned_abs-v.ensures.value in
    rw (a, b, u, v, c.from-n.ensures, c.from-m.ensures) (rising x y c.args.after c.requires.x c.requires.y c.requires.first c.requires.second p q h (not-negative x.c fits_x c.if-x-lt0.false) (not-negative y.c fits_y c.if-y-lt0.false))
