-- What is read is at least a token, but for parts that may be empty.
use Rattle.std.proofs.Common.{◌≡◌, ◌<◌, ◌≤◌, Bool, true, false, ◌||◌, List, length, inl, inr, refl, sym, ◌∙◌, true≢false, arith}
use Rattle.std.proofs.lemmas.Bool.{and_from, cases_Bool}
use Rattle.vd_source_lexer.specs.Grammar.{Ebnf, Sym}
use Rattle.vd_source_lexer.specs.Machine.{nullable}
use Rattle.vd_source_lexer.specs.Trees.{Tree, Makes, m-tok, m-sym, m-eps, m-seq, m-left, m-right, m-stop, m-more}
use Rattle.vd_source_lexer.specs.Reading.{Gives}
use Rattle.vd_source_lexer.specs.Kinds.{code_of}
use Rattle.vd_source_lexer.specs.declared.token.Token.{Token}
use Rattle.vd_parser.specs.Language.{Symbol, rule}
use Rattle.vd_parser.specs.Parsing.{language}
use Rattle.vd_parser.proofs.Ready.{language_ll1}

record Less (e : Ebnf Symbol) (ts us : List Token) : Type 0 where
  pub most : length us ≤ length ts
  pub some : nullable e ≡ false → length us < length ts

less : {e : Ebnf Symbol} {ts us : List Token} {x : Tree Token} → Makes Symbol Token rule (λ t. code_of t.kind) e ts us x → Less e ts us
less (m-tok e) = record { most = omega arith; some = λ n. omega arith }
less (m-sym {s = s} g) = let r = less g in record { most = r.most; some = λ n. r.some (language_ll1.tables.nonempty s) }
less m-eps = record { most = omega arith; some = λ n. absurd (true≢false n) }
less (m-seq {a = a} {b = b} g h) =
    let l = less g in
    let r = less h in
    record {
      most = omega (arith, l.most, r.most);
      some = λ n. elim (cases_Bool (nullable a)) [
        | inr e ↦ omega (arith, l.some e, r.most)
        | inl e ↦ elim (cases_Bool (nullable b)) [
          | inr f ↦ omega (arith, r.some f, l.most)
          | inl f ↦ absurd (true≢false (sym (and_from (nullable a) (nullable b) e f) ∙ n))
        ]
      ];
    }
less (m-left {a = a} {b = b} g) = let r = less g in record { most = r.most; some = λ n. r.some (left_not (nullable a) (nullable b) n) }
  where
    left_not : (p q : Bool) → (p || q) ≡ false → p ≡ false
    left_not true q e = absurd (true≢false e)
    left_not false q e = refl
less (m-right {a = a} {b = b} g) = let r = less g in record { most = r.most; some = λ n. r.some (right_not (nullable a) (nullable b) n) }
  where
    right_not : (p q : Bool) → (p || q) ≡ false → q ≡ false
    right_not true q e = absurd (true≢false e)
    right_not false q e = e
less m-stop = record { most = omega arith; some = λ n. absurd (true≢false n) }
less (m-more g h) = let l = less g in let r = less h in record { most = omega (arith, l.most, r.most); some = λ n. absurd (true≢false n) }

-- a symbol's text has a token
pub symbol_less : {X : Type 0} {s : Symbol} {of : Tree Token → X} {ts us : List Token} {v : X} → Gives language (Sym s) of ts us v → length us < length ts
unfolding language
symbol_less r = (less r.read.makes).some refl
