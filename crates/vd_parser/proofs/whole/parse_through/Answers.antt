use Rattle.std.proofs.Common.{◌≡◌, ◌≤◌, [], ◌+◌, inl, inr, length, take, Some, refl, sym, ◌∙◌, subst, arith}
use Rattle.vd_source_lexer.specs.Grammar.{Sym}
use Rattle.vd_source_lexer.specs.Reading.{Gives}
use Rattle.vd_parser.specs.declared.cursor.Refusal.TheVariants as refusal
use Rattle.vd_parser.specs.Language.{SOURCE}
use Rattle.vd_parser.specs.Syntax.{source_of}
use Rattle.vd_parser.specs.Parsing.{language, Refused}
use Rattle.vd_parser.specs.Whole.{NoEnd}
use Rattle.vd_parser.specs.Outcomes.{sentence}
use Rattle.vd_parser.proofs.Outcomes.{no_end, too_deep_whole, too_deep_end, unexpected_deep, no_tokens, some_left}
use Rattle.vd_parser.proofs.Scan.{first_deep, scan_finds}
use Rattle.vd_parser.proofs.whole.parse_through.Goals as goal
use Rattle.vd_parser.proofs.whole.parse_through.Goals.{in-Ok, in-Err+in-Memory, in-Err+in-Unexpected+then-left-eq0, in-Err+in-Unexpected+else-left-eq0}

pub whole_source-source-requires : goal.whole_source-source-requires
whole_source-source-requires c =
    let ts = c.args.tokens.now in
    let body : c.new-cursor.result ≡ take (c.args.deep + 1) ts = grind arith in
    subst NoEnd (sym body) (no_end ts (c.args.deep + 1) c.requires.ended (omega (arith, c.requires.within)))

pub returns : goal.returns
returns c =
    let ts = c.args.tokens.now in
    let text = c.args.text.now in
    let deep = c.args.deep in
    let us = c.whole_source-source.new.cursor in
    let first : first_deep ts ≡ Some deep = scan_finds ts deep c.requires.deep in
    let body : c.new-cursor.result ≡ take (deep + 1) ts = grind arith in
    elim c.match-source.branch [
      | in-Ok w ↦ rw w.result-is (inr (too_deep_whole ts deep first _ text w.in-Ok.field-0 (subst (λ xs. Gives language (Sym SOURCE) (source_of text) xs [] w.in-Ok.field-0) body w.in-Ok.ensures.0)))
      | in-Err+in-Memory w ↦ rw w.result-is (inl refl)
      | in-Err+in-Unexpected+then-left-eq0 w ↦ (
          let none : us ≡ [] = no_tokens us (sym w.len-left.ensures ∙ w.if-left-eq0.true) in
          let refused = subst (λ f. Refused sentence c.new-cursor.result us f) w.in-Unexpected.is w.in-Err.ensures in
          let here = subst (λ xs. Refused sentence xs us refusal.Unexpected) body refused in
          rw w.result-is (inr (too_deep_end ts deep first _ (subst (λ vs. Refused sentence (take (deep + 1) ts) vs refusal.Unexpected) none here))))
      | in-Err+in-Unexpected+else-left-eq0 w ↦ (
          let refused = subst (λ f. Refused sentence c.new-cursor.result us f) w.in-Unexpected.is w.in-Err.ensures in
          let here = subst (λ xs. Refused sentence xs us refusal.Unexpected) body refused in
          let le : deep + 1 ≤ length ts = omega (arith, c.requires.within) in
          rw (w.result-is, w.len-left.ensures) (inr (unexpected_deep ts deep first us _ le (some_left _ _ w.len-left.ensures w.if-left-eq0.false) here)))
    ]
