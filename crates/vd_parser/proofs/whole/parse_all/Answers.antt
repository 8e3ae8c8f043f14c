use Rattle.std.proofs.Common.{◌≡◌, ◌-◌, inr, length, take, sym, subst, arith}
use Rattle.vd_source_lexer.specs.Grammar.{Sym}
use Rattle.vd_source_lexer.specs.Reading.{Gives}
use Rattle.vd_parser.specs.declared.cursor.Refusal.TheVariants as refusal
use Rattle.vd_parser.specs.Language.{SOURCE}
use Rattle.vd_parser.specs.Syntax.{source_of}
use Rattle.vd_parser.specs.Parsing.{language, Refused}
use Rattle.vd_parser.specs.Whole.{NoEnd}
use Rattle.vd_parser.specs.Outcomes.{sentence}
use Rattle.vd_parser.proofs.Outcomes.{no_end, closed_of, one_at_least, is_source, unexpected_shallow}
use Rattle.vd_parser.proofs.Scan.{scan_none}
use Rattle.vd_parser.proofs.whole.parse_all.Goals as goal

pub whole_source-source-requires : goal.whole_source-source-requires
whole_source-source-requires c =
    let ts = c.args.tokens.now in
    let body : c.new-cursor.result ≡ take (length ts - 1) ts = grind arith in
    subst NoEnd (sym body) (no_end ts (length ts - 1) c.requires.ended (let e = one_at_least ts c.requires.ended in omega (arith, e)))

pub returns-in-Ok : goal.returns-in-Ok
returns-in-Ok c =
    let ts = c.args.tokens.now in
    let body : c.new-cursor.result ≡ take (length ts - 1) ts = grind arith in
    inr (record {
      source = is_source c.args.text.now ts (length ts - 1) c.in-Ok.source (closed_of ts c.requires.ended) (subst (λ xs. Gives language (Sym SOURCE) (source_of c.args.text.now) xs _ c.in-Ok.source) body c.in-Ok.ensures.0);
      shallow = c.requires.shallow;
    })

pub returns-in-Unexpected : goal.returns-in-Unexpected
returns-in-Unexpected c =
    let ts = c.args.tokens.now in
    let us = c.whole_source-source.new.cursor in
    let body : c.new-cursor.result ≡ take (length ts - 1) ts = grind arith in
    let refused = subst (λ f. Refused sentence c.new-cursor.result us f) c.in-Unexpected.is c.in-Err.ensures in
    inr (rw c.len.ensures (unexpected_shallow ts us (length ts - 1) _ (closed_of ts c.requires.ended) (one_at_least ts c.requires.ended) (scan_none ts c.requires.shallow) (subst (λ xs. Refused sentence xs us refusal.Unexpected) body refused)))
