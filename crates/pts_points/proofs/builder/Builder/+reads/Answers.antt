use Rattle.std.proofs.lemmas.Result.{on_ok_weaker}
use Rattle.pts_points.proofs.Builds.{adds_nothing}
use Rattle.pts_points.proofs.Turns.{adds_all}
use Rattle.pts_points.proofs.ReadTurns.{each_turn, operands_turn, read_added, in-Number, in-True, in-False, in-Name, in-Throw, in-Call, in-All, in-Any, in-Convert, in-Paren, in-Minus, in-Not, in-Element, in-Chain, in-Compare, in-If}
use Rattle.pts_points.specs.Points.{reads_of}
use Rattle.pts_points.proofs.builder.Builder.«+reads».Goals as goal

pub each-loop-expr-init : goal.each-loop-expr-init
each-loop-expr-init t c = adds_nothing c.args.self.now

pub each-loop-expr-preserved : goal.each-loop-expr-preserved
each-loop-expr-preserved t c =
    each_turn c.args.scope.now c.args.self.now c.loop-expr.self c.reads.new.self c.loop-expr.expr-index c.args.exprs.now c.expr-item.result c.loop-expr-test.true c.expr-item.is c.loop-expr.invariant c.in_ok-reads.ensures

pub each-returns : goal.each-returns
each-returns t c = adds_all (reads_of c.args.scope.now c.args.self.now.space) c.args.self.now c.loop-expr.self c.args.exprs.now c.loop-expr.expr-index c.loop-expr-test.false c.loop-expr.invariant

pub element-returns : goal.element-returns
element-returns t c =
    on_ok_weaker c.push.result
    (read_added c.args.scope.now c.args.self.now c.reads.new.self c.push.new.self c.args.array.now c.args.index.now c.kept_array.result c.line_of_index-line.result c.in_ok-reads.ensures
    c.kept_array.ensures c.line_of_index-line.ensures) c.push.ensures

pub operands-loop-part-init : goal.operands-loop-part-init
operands-loop-part-init t c = adds_nothing c.args.self.now

pub operands-loop-part-preserved : goal.operands-loop-part-preserved
operands-loop-part-preserved t c =
    operands_turn c.args.scope.now c.args.self.now c.loop-part.self c.reads.new.self c.loop-part.part-index c.args.parts.now c.part-item.result c.loop-part-test.true c.part-item.is c.loop-part.invariant c.in_ok-reads.ensures

pub operands-returns : goal.operands-returns
operands-returns t c = adds_all (λ x. reads_of c.args.scope.now c.args.self.now.space x.operand) c.args.self.now c.loop-part.self c.args.parts.now c.loop-part.part-index c.loop-part-test.false c.loop-part.invariant

pub reads-returns-in-Number : goal.reads-returns-in-Number
reads-returns-in-Number t c = in-Number c.args.scope.now c.args.self.now c.args.self.now c.args.expr.now c.in-Number.field-0 c.in-Number.is

pub reads-returns-in-True : goal.reads-returns-in-True
reads-returns-in-True t c = in-True c.args.scope.now c.args.self.now c.args.self.now c.args.expr.now c.in-True.is

pub reads-returns-in-False : goal.reads-returns-in-False
reads-returns-in-False t c = in-False c.args.scope.now c.args.self.now c.args.self.now c.args.expr.now c.in-False.is

pub reads-returns-in-Name : goal.reads-returns-in-Name
reads-returns-in-Name t c = in-Name c.args.scope.now c.args.self.now c.args.self.now c.args.expr.now c.in-Name.field-0 c.in-Name.is

pub reads-returns-in-Throw : goal.reads-returns-in-Throw
reads-returns-in-Throw t c = in-Throw c.args.scope.now c.args.self.now c.args.self.now c.args.expr.now c.in-Throw.field-0 c.in-Throw.is

pub reads-returns-in-Call : goal.reads-returns-in-Call
reads-returns-in-Call t c = on_ok_weaker c.each.result (in-Call c.args.scope.now c.args.self.now c.each.new.self c.args.expr.now c.in-Call.field-0 c.in-Call.exprs c.as_slice.result.now c.in-Call.is c.as_slice.ensures) c.each.ensures

pub reads-returns-in-All : goal.reads-returns-in-All
reads-returns-in-All t c = on_ok_weaker c.each-in-All.result (in-All c.args.scope.now c.args.self.now c.each-in-All.new.self c.args.expr.now c.in-All.exprs c.as_slice-in-All.result.now c.in-All.is c.as_slice-in-All.ensures) c.each-in-All.ensures

pub reads-returns-in-Any : goal.reads-returns-in-Any
reads-returns-in-Any t c = on_ok_weaker c.each-in-Any.result (in-Any c.args.scope.now c.args.self.now c.each-in-Any.new.self c.args.expr.now c.in-Any.exprs c.as_slice-in-Any.result.now c.in-Any.is c.as_slice-in-Any.ensures) c.each-in-Any.ensures

pub reads-returns-in-Convert : goal.reads-returns-in-Convert
reads-returns-in-Convert t c = on_ok_weaker c.reads.result (in-Convert c.args.scope.now c.args.self.now c.reads.new.self c.args.expr.now c.in-Convert.field-0 c.in-Convert.expr c.get-in-Convert.result.now c.in-Convert.is c.get-in-Convert.ensures) c.reads.ensures

pub reads-returns-in-Paren : goal.reads-returns-in-Paren
reads-returns-in-Paren t c = on_ok_weaker c.reads-in-Paren.result (in-Paren c.args.scope.now c.args.self.now c.reads-in-Paren.new.self c.args.expr.now c.in-Paren.expr c.get-in-Paren.result.now c.in-Paren.is c.get-in-Paren.ensures) c.reads-in-Paren.ensures

pub reads-returns-in-Minus : goal.reads-returns-in-Minus
reads-returns-in-Minus t c = on_ok_weaker c.reads-in-Minus.result (in-Minus c.args.scope.now c.args.self.now c.reads-in-Minus.new.self c.args.expr.now c.in-Minus.expr c.get-in-Minus.result.now c.in-Minus.is c.get-in-Minus.ensures) c.reads-in-Minus.ensures

pub reads-returns-in-Not : goal.reads-returns-in-Not
reads-returns-in-Not t c = on_ok_weaker c.reads-in-Not.result (in-Not c.args.scope.now c.args.self.now c.reads-in-Not.new.self c.args.expr.now c.in-Not.expr c.get-in-Not.result.now c.in-Not.is c.get-in-Not.ensures) c.reads-in-Not.ensures

pub reads-returns-in-Element : goal.reads-returns-in-Element
reads-returns-in-Element t c =
    on_ok_weaker c.element.result (in-Element c.args.scope.now c.args.self.now c.element.new.self c.args.expr.now c.in-Element.array c.in-Element.index c.get.result.now c.in-Element.is c.get.ensures) c.element.ensures

pub reads-returns-in_ok-reads-in-Chain : goal.reads-returns-in_ok-reads-in-Chain
reads-returns-in_ok-reads-in-Chain t c =
    on_ok_weaker c.operands.result
    (in-Chain c.args.scope.now c.args.self.now c.operands.new.self c.args.expr.now c.in-Chain.first c.get-in-Chain.result.now c.in-Chain.parts c.as_slice-in-Chain.result.now c.reads-in-Chain.new.self c.in-Chain.is
    c.get-in-Chain.ensures c.as_slice-in-Chain.ensures c.in_ok-reads-in-Chain.ensures) c.operands.ensures

pub reads-returns-in_ok-reads-in-Compare : goal.reads-returns-in_ok-reads-in-Compare
reads-returns-in_ok-reads-in-Compare t c =
    on_ok_weaker c.reads-in-Compare-2.result
    (in-Compare c.args.scope.now c.args.self.now c.reads-in-Compare-2.new.self c.args.expr.now c.in-Compare.field-0 c.in-Compare.left c.in-Compare.right c.get-in-Compare.result.now c.get-in-Compare-2.result.now
    c.reads-in-Compare.new.self c.in-Compare.is c.get-in-Compare.ensures c.get-in-Compare-2.ensures c.in_ok-reads-in-Compare.ensures) c.reads-in-Compare-2.ensures

pub reads-returns-in_ok-reads-in-If-2 : goal.reads-returns-in_ok-reads-in-If-2
reads-returns-in_ok-reads-in-If-2 t c =
    on_ok_weaker c.reads-in-If-3.result
    (in-If c.args.scope.now c.args.self.now c.reads-in-If-3.new.self c.args.expr.now c.in-If.test c.in-If.then c.in-If.other c.get-in-If.result.now c.get-in-If-2.result.now c.get-in-If-3.result.now
    c.reads-in-If.new.self c.reads-in-If-2.new.self c.in-If.is c.get-in-If.ensures c.get-in-If-2.ensures c.get-in-If-3.ensures c.in_ok-reads-in-If.ensures c.in_ok-reads-in-If-2.ensures) c.reads-in-If-3.ensures
