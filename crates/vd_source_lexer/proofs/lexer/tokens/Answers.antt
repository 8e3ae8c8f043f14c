use Rattle.std.proofs.Common.{[], ◌∷◌, ◌++◌, arith, rules, sym, ◌∙◌, ap, subst, append_assoc}
use Rattle.vd_source_lexer.specs.declared.piece.Piece.TheVariants.{Blank, Lexeme}
use Rattle.vd_source_lexer.specs.declared.token.TokenKind.TheVariants as kind
use Rattle.vd_source_lexer.specs.Tokens.{Lexes, token_at}
use Rattle.vd_source_lexer.proofs.TokenSteps.{size_here, lexes_after_blank, lexes_after_token, lexes_at_end, bad_at, bad_behind_blank, bad_behind_token}
use Rattle.vd_source_lexer.proofs.TokenFacts.{ends_once, tokens_spelled}
use Rattle.vd_source_lexer.proofs.lexer.tokens.Goals as goal

whole : (c : goal.In_ok-push) → Lexes c.args.bytes.now 0 c.push-2.new.self
whole c =
    let at = c.loop-at in
    subst (λ all. Lexes c.args.bytes.now 0 all) (sym (c.in_ok-push.ensures.ok ∙ ap (λ t. at.found ++ t ∷ []) c.token-2.ensures))
    (at.invariant.tokens (token_at kind.End at.at 0 0 ∷ []) (lexes_at_end c.args.bytes.now at.at c.loop-at-test.false))

pub overflow_add-at : goal.overflow_add-at
overflow_add-at c = let size = size_here c.args.bytes.now c.loop-at.at c.loop-at-test.true (Blank c.in-Blank.len) c.in-Blank.ensures in search rules

pub loop-at-smaller-in-Blank : goal.loop-at-smaller-in-Blank
loop-at-smaller-in-Blank c = let size = size_here c.args.bytes.now c.loop-at.at c.loop-at-test.true (Blank c.in-Blank.len) c.in-Blank.ensures in omega arith

pub loop-at-preserved-in-Blank : goal.loop-at-preserved-in-Blank
loop-at-preserved-in-Blank c =
    let at = c.loop-at in
    let size = size_here c.args.bytes.now at.at c.loop-at-test.true (Blank c.in-Blank.len) c.in-Blank.ensures in
    record {
      within = omega arith;
      tokens = λ ts l. at.invariant.tokens ts (lexes_after_blank c.args.bytes.now at.at c.loop-at-test.true c.in-Blank.len ts c.in-Blank.ensures l);
      bad = λ k f. at.invariant.bad k (bad_behind_blank c.args.bytes.now at.at c.loop-at-test.true c.in-Blank.len k c.in-Blank.ensures f);
    }

pub token-requires : goal.token-requires
token-requires c = let size = size_here c.args.bytes.now c.loop-at.at c.loop-at-test.true (Lexeme c.in-Lexeme.kind c.in-Lexeme.len c.in-Lexeme.value) c.in-Lexeme.ensures in omega arith

pub loop-at-smaller : goal.loop-at-smaller
loop-at-smaller c = let size = size_here c.args.bytes.now c.loop-at.at c.loop-at-test.true (Lexeme c.in-Lexeme.kind c.in-Lexeme.len c.in-Lexeme.value) c.in-Lexeme.ensures in omega arith

pub loop-at-preserved : goal.loop-at-preserved
loop-at-preserved c =
    let at = c.loop-at in
    let this = token_at c.in-Lexeme.kind at.at c.in-Lexeme.len c.in-Lexeme.value in
    let size = size_here c.args.bytes.now at.at c.loop-at-test.true (Lexeme c.in-Lexeme.kind c.in-Lexeme.len c.in-Lexeme.value) c.in-Lexeme.ensures in
    record {
      within = omega arith;
      tokens = λ ts l. subst (λ all. Lexes c.args.bytes.now 0 all)
          (sym (ap (λ found. found ++ ts) (c.in_ok-push-in-Lexeme.ensures.ok ∙ ap (λ t. at.found ++ t ∷ []) c.token.ensures) ∙ append_assoc at.found (this ∷ []) ts))
          (at.invariant.tokens (this ∷ ts) (lexes_after_token c.args.bytes.now at.at c.loop-at-test.true c.in-Lexeme.kind c.in-Lexeme.len c.in-Lexeme.value ts c.in-Lexeme.ensures l));
      bad = λ k f. at.invariant.bad k (bad_behind_token c.args.bytes.now at.at c.loop-at-test.true c.in-Lexeme.kind c.in-Lexeme.len c.in-Lexeme.value k c.in-Lexeme.ensures f);
    }

pub returns-in-Bad-clause-bad : goal.returns-in-Bad-clause-bad
returns-in-Bad-clause-bad c = c.loop-at.invariant.bad _ (bad_at c.args.bytes.now c.loop-at.at c.loop-at-test.true c.in-Bad.ensures)

pub returns-clause-ok : goal.returns-clause-ok
returns-clause-ok c = whole c

pub returns-clause-ended : goal.returns-clause-ended
returns-clause-ended c = ends_once (whole c)

pub returns-clause-spelled : goal.returns-clause-spelled
returns-clause-spelled c = tokens_spelled c.args.bytes.now c.push-2.new.self (whole c)
