use Rattle.verilog_text.proofs.Growth.{extends_twice}
use Rattle.verilog_text.proofs.Joins.{joins, joins_if}
use Rattle.verilog_text.proofs.expressions.+put_expression.Goals as goal

pub returns-in_err-put_expression-in-Choice-3-clause-kept : goal.returns-in_err-put_expression-in-Choice-3-clause-kept
returns-in_err-put_expression-in-Choice-3-clause-kept t c =
    extends_twice _ _ _ c.put-in-Choice.ensures.kept
    (extends_twice _ _ _ c.put_expression-in-Choice.ensures.kept
    (extends_twice _ _ _ c.put-in-Choice-2.ensures.kept
    (extends_twice _ _ _ c.put_expression-in-Choice-2.ensures.kept
    (extends_twice _ _ _ c.put-in-Choice-3.ensures.kept c.put_expression-in-Choice-3.ensures.kept))))

pub returns-in_ok-put_expression-in-Choice-3-clause-kept : goal.returns-in_ok-put_expression-in-Choice-3-clause-kept
returns-in_ok-put_expression-in-Choice-3-clause-kept t c =
    extends_twice _ _ _ c.put-in-Choice.ensures.kept
    (extends_twice _ _ _ c.put_expression-in-Choice.ensures.kept
    (extends_twice _ _ _ c.put-in-Choice-2.ensures.kept
    (extends_twice _ _ _ c.put_expression-in-Choice-2.ensures.kept
    (extends_twice _ _ _ c.put-in-Choice-3.ensures.kept
    (extends_twice _ _ _ c.put_expression-in-Choice-3.ensures.kept c.put-in-Choice-4.ensures.kept)))))

pub returns-in_ok-put_expression-in-Unary-clause-text : goal.returns-in_ok-put_expression-in-Unary-clause-text
returns-in_ok-put_expression-in-Unary-clause-text t c =
    let symbol = rw c.prefix.ensures at c.in_ok-put-in-Unary-2.ensures.text in
    let operand = rw c.get.ensures.whole_tree at c.in_ok-put_expression-in-Unary.ensures.text in
    let first = joins c.args.out.now.items _ _ _ _ c.in_ok-put-in-Unary.ensures.text symbol in
    let second = joins c.args.out.now.items _ _ _ _ first operand in
    rw c.in-Unary.is (joins_if _ c.args.out.now.items _ _ _ _ second c.put-in-Unary-2.ensures.text)

pub returns-in_ok-put_expression-in-Binary-2-clause-text : goal.returns-in_ok-put_expression-in-Binary-2-clause-text
returns-in_ok-put_expression-in-Binary-2-clause-text t c =
    let left = rw c.get-in-Binary.ensures.whole_tree at c.in_ok-put_expression-in-Binary.ensures.text in
    let right = rw c.get-in-Binary-2.ensures.whole_tree at c.in_ok-put_expression-in-Binary-2.ensures.text in
    let first = joins c.args.out.now.items _ _ _ _ c.in_ok-put-in-Binary.ensures.text left in
    let second = joins c.args.out.now.items _ _ _ _ first c.in_ok-put_infix-in-Binary.ensures.text in
    let third = joins c.args.out.now.items _ _ _ _ second right in
    rw c.in-Binary.is (joins_if _ c.args.out.now.items _ _ _ _ third c.put-in-Binary-2.ensures.text)

pub returns-in_ok-put_expression-in-Choice-3-clause-text : goal.returns-in_ok-put_expression-in-Choice-3-clause-text
returns-in_ok-put_expression-in-Choice-3-clause-text t c =
    let test = rw c.get-in-Choice.ensures.whole_tree at c.in_ok-put_expression-in-Choice.ensures.text in
    let yes = rw c.get-in-Choice-2.ensures.whole_tree at c.in_ok-put_expression-in-Choice-2.ensures.text in
    let no = rw c.get-in-Choice-3.ensures.whole_tree at c.in_ok-put_expression-in-Choice-3.ensures.text in
    let first = joins c.args.out.now.items _ _ _ _ c.in_ok-put-in-Choice.ensures.text test in
    let second = joins c.args.out.now.items _ _ _ _ first c.in_ok-put-in-Choice-2.ensures.text in
    let third = joins c.args.out.now.items _ _ _ _ second yes in
    let fourth = joins c.args.out.now.items _ _ _ _ third c.in_ok-put-in-Choice-3.ensures.text in
    let fifth = joins c.args.out.now.items _ _ _ _ fourth no in
    rw c.in-Choice.is (joins_if _ c.args.out.now.items _ _ _ _ fifth c.put-in-Choice-4.ensures.text)
