use Rattle.std.proofs.Common.{rules, ◌≡◌, ◌<◌, length, get_or, take, ap, ◌∙◌, arith}
use Rattle.std.proofs.lemmas.List.{length-take-le}
use Rattle.pts_code.specs.Codes.{body_sight, gives, functions_of}
use Rattle.pts_code.specs.Functions.{outcome_of}
use Rattle.pts_code.proofs.Calls.{given_by, function_at}
use Rattle.pts_code.proofs.Scopes.{codes_length, outcome_at}
use Rattle.pts_code.proofs.codes.Codes.call.Goals as goal

pub slice_bounds-frame-end : goal.slice_bounds-frame-end
slice_bounds-frame-end c =
    let view : c.self.inside.functions.items ≡ c.args.self.now = c.self.view_is in
    let within : c.args.function < length c.as_slice-codes.result.now =
    omega (arith, c.requires, ap length view, ap length c.as_slice-codes.ensures.value, codes_length c.self.inside.functions.items c.self.inside.codes.items c.self.inside.scope c.self.invariant) in
    omega (arith, within, length-take-le c.args.function c.as_slice-codes.result.now (omega (arith, within)))

pub bounds-codes-function : goal.bounds-codes-function
bounds-codes-function c =
    let view : c.self.inside.functions.items ≡ c.args.self.now = c.self.view_is in
    omega (arith, c.requires, ap length view, ap length c.as_slice-codes.ensures.value, codes_length c.self.inside.functions.items c.self.inside.codes.items c.self.inside.scope c.self.invariant)

pub offset_bounds-codes-function : goal.offset_bounds-codes-function
offset_bounds-codes-function c =
    let view : c.self.inside.functions.items ≡ c.args.self.now = c.self.view_is in
    let within : c.args.function < length c.as_slice-codes.result.now =
    omega (arith, c.requires, ap length view, ap length c.as_slice-codes.ensures.value, codes_length c.self.inside.functions.items c.self.inside.codes.items c.self.inside.scope c.self.invariant) in
    search rules

pub returns : goal.returns
returns c =
    let functions = c.self.inside.functions.items in
    let codes = c.self.inside.codes.items in
    let scope = c.self.inside.scope in
    let n = c.args.function in
    let arguments = c.args.arguments.now in
    let item = c.index-codes-function.result in
    let view : functions ≡ c.args.self.now = c.self.view_is in
    let within : n < length codes = omega (arith, c.requires, ap length view, codes_length functions codes scope c.self.invariant) in
    c.eval.ensures
    ∙ ap (gives (body_sight (functions_of (take n c.as_slice-codes.result.now)) arguments)) c.index-codes-function.is
    ∙ ap (λ all. gives (body_sight (functions_of (take n all)) arguments) (get_or all n item)) c.as_slice-codes.ensures.value
    ∙ outcome_at functions codes scope n arguments (given_by (functions_of (take n codes)) (get_or codes n item)) c.self.invariant (function_at codes n item within)
    ∙ ap (λ fs. outcome_of fs n arguments) view
