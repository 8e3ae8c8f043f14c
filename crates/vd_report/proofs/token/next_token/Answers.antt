use Rattle.std.proofs.Common.{◌+◌, length, rules, arith, ap, length-drop}
use Rattle.vd_report.proofs.TokenSteps.{slice_from_is, blanks_fit, at_end, at_token, token_fits}
use Rattle.vd_report.proofs.token.next_token.Goals as goal

pub overflow_add-start : goal.overflow_add-start
overflow_add-start c = let fit = blanks_fit c.args.bytes.now c.args.at c.blank_len.result c.requires c.blank_len.ensures in search rules

pub returns-then-start-bytes-clause-first : goal.returns-then-start-bytes-clause-first
returns-then-start-bytes-clause-first c = at_end c.args.bytes.now c.args.at c.blank_len.result c.requires c.blank_len.ensures c.if-start-bytes.true

pub slice_bounds-first_token-count : goal.slice_bounds-first_token-count
slice_bounds-first_token-count c = let fit = blanks_fit c.args.bytes.now c.args.at c.blank_len.result c.requires c.blank_len.ensures in omega arith

pub slice_bounds-first_token-start : goal.slice_bounds-first_token-start
slice_bounds-first_token-start c = let fit = blanks_fit c.args.bytes.now c.args.at c.blank_len.result c.requires c.blank_len.ensures in search rules

pub first_token-kind-requires : goal.first_token-kind-requires
first_token-kind-requires c =
    let at = c.args.at + c.blank_len.result in
    let fit = blanks_fit c.args.bytes.now c.args.at c.blank_len.result c.requires c.blank_len.ensures in
    omega (arith, ap length (slice_from_is c.args.bytes.now at), length-drop at c.args.bytes.now, c.if-start-bytes.false)

pub overflow_add-result : goal.overflow_add-result
overflow_add-result c =
    let fit = blanks_fit c.args.bytes.now c.args.at c.blank_len.result c.requires c.blank_len.ensures in
    let within = token_fits c.args.bytes.now c.args.at c.blank_len.result c.requires c.blank_len.ensures (omega (arith, c.if-start-bytes.false)) c.first_token-kind.result.0 c.first_token-kind.result.1 c.first_token-kind.ensures.kind c.first_token-kind.ensures.len in
    let end = within.end in
    search rules

pub returns-clause-first : goal.returns-clause-first
returns-clause-first c =
    let fit = blanks_fit c.args.bytes.now c.args.at c.blank_len.result c.requires c.blank_len.ensures in
    at_token c.args.bytes.now c.args.at c.blank_len.result c.requires c.blank_len.ensures (omega (arith, c.if-start-bytes.false)) c.first_token-kind.result.0 c.first_token-kind.result.1 c.first_token-kind.ensures.kind c.first_token-kind.ensures.len

pub returns-clause-within : goal.returns-clause-within
returns-clause-within c =
    let fit = blanks_fit c.args.bytes.now c.args.at c.blank_len.result c.requires c.blank_len.ensures in
    token_fits c.args.bytes.now c.args.at c.blank_len.result c.requires c.blank_len.ensures (omega (arith, c.if-start-bytes.false)) c.first_token-kind.result.0 c.first_token-kind.result.1 c.first_token-kind.ensures.kind c.first_token-kind.ensures.len
