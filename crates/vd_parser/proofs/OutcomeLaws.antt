-- Some bytes have one outcome.
use Rattle.std.proofs.Common.{◌≡◌, ℕ, zero, suc, ◌≤◌, List, [], ◌∷◌, ◌++◌, inl, inr, length, take, drop, get_or, Some, Result, Ok, Err, refl, sym, ap, ◌∙◌, subst, arith, ◌-◌, append_assoc}
use Rattle.std.proofs.lemmas.Bool.{cases_lt}
use Rattle.vd_source_lexer.specs.Grammar.{Spells, Starts}
use Rattle.vd_source_lexer.specs.Trees.{Tree, Both}
use Rattle.vd_source_lexer.proofs.Front.{fronts, only_tree, texts_trees}
use Rattle.vd_core.specs.declared.source.Source.{Source}
use Rattle.vd_source_lexer.specs.Kinds.{code_of}
use Rattle.vd_source_lexer.specs.Tokens.{kinds}
use Rattle.vd_source_lexer.specs.declared.token.Token.{Token}
use Rattle.vd_source_lexer.proofs.Front.{lexes_once}
use Rattle.vd_parser.specs.declared.fault.ParseFault.{ParseFault}
use Rattle.vd_parser.specs.declared.fault.ParseFault.TheVariants as fault
use Rattle.vd_parser.specs.Language.{Symbol, rule}
use Rattle.vd_parser.specs.Syntax.{no_token, source_of}
use Rattle.vd_parser.specs.Outcomes.{sentence, BeginSource, IsSource, IsUnexpected, IsTooDeep, HasTokens, ParsesOnce}
use Rattle.vd_parser.specs.Whole.{IsOutcome}
use Rattle.vd_parser.proofs.Ready.{F, E, language_ll1, ones}
use Rattle.vd_parser.proofs.Scan.{first_deep, NoneBefore, none_before, scan_finds}
use Rattle.vd_parser.proofs.Outcomes.{get_at, take_at, kinds-append}

pub take_front : (xs : List Token) (t : Token) (ys : List Token) → take (length xs) (xs ++ t ∷ ys) ≡ xs
take_front [] t ys = refl
take_front (x ∷ xs) t ys = ap (λ us. x ∷ us) (take_front xs t ys)

take_none : (k : ℕ) → ◌≡◌ {A = List Token} (take k []) []
take_none zero = refl
take_none (suc k) = refl

-- a prefix of a front
take_less : (m n : ℕ) (ts : List Token) → m ≤ n → take n ts ≡ take m ts ++ take (n - m) (drop m ts)
take_less zero n ts h = ap (λ k. take k ts) (let e : n ≡ n - 0 = omega arith in e)
take_less (suc m) zero ts h = absurd (omega (arith, h))
take_less (suc m) (suc n) [] h = sym (take_none (suc n - suc m))
take_less (suc m) (suc n) (t ∷ ts) h =
    let e : suc n - suc m ≡ n - m = omega arith in
    ap (λ us. t ∷ us) (take_less m n ts (omega (arith, h))) ∙ ap (λ k. t ∷ (take m ts ++ take k (drop m ts))) (sym e)

pub begins_less : (ts : List Token) (m n : ℕ) → m ≤ n → BeginSource (take n ts) → BeginSource (take m ts)
begins_less ts m n h q = (fronts Symbol rule F E 10 language_ll1 (sentence ∷ []) refl (kinds (take m ts)) (kinds (take (n - m) (drop m ts)))).beginning
    (subst (Starts Symbol rule (sentence ∷ [])) (ap kinds (take_less m n ts h) ∙ kinds-append (take m ts) (take (n - m) (drop m ts))) q)

-- the same without the lists before and behind
record Unexpected' (ts : List Token) (k offset : ℕ) : Type 0 where
  pub at : offset ≡ (get_or ts k no_token).span.start
  pub begins : BeginSource (take k ts)
  pub ends : BeginSource (take (suc k) ts) → ⊥
  pub shallow : NoneBefore k (first_deep ts)

unexpected_facts : (ts : List Token) (k o : ℕ) → IsUnexpected ts k o → Unexpected' ts k o
unexpected_facts ts k o p =
    let front : take k ts ≡ p.before = ap (λ n. take n ts) p.number ∙ ap (take (length p.before)) p.all ∙ take_front p.before p.token p.behind in
    let through : take (suc k) ts ≡ p.before ++ p.token ∷ [] = ap (λ n. take (suc n) ts) p.number ∙ ap (take (suc (length p.before))) p.all ∙ take_at p.before p.token p.behind in
    let here : get_or ts k no_token ≡ p.token = ap (λ n. get_or ts n no_token) p.number ∙ ap (λ xs. get_or xs (length p.before) no_token) p.all ∙ get_at p.before p.token p.behind no_token in
    record { at = p.at ∙ ap (λ t. t.span.start) (sym here); begins = subst BeginSource (sym front) p.begins; ends = λ q. p.ends (subst BeginSource through q); shallow = subst (λ n. NoneBefore n (first_deep ts)) (sym p.number) (none_before ts p.before (p.token ∷ p.behind) p.all p.shallow) }

record TooDeep' (ts : List Token) (offset d : ℕ) : Type 0 where
  pub at : offset ≡ (get_or ts d no_token).span.start
  pub deep : first_deep ts ≡ Some d
  pub begins : BeginSource (take (suc d) ts)

too_deep_facts : (ts : List Token) (o : ℕ) (p : IsTooDeep ts o) → TooDeep' ts o (length p.before)
too_deep_facts ts o p =
    let through : take (suc (length p.before)) ts ≡ p.before ++ p.token ∷ [] = ap (take (suc (length p.before))) p.all ∙ take_at p.before p.token p.behind in
    let here : get_or ts (length p.before) no_token ≡ p.token = ap (λ xs. get_or xs (length p.before) no_token) p.all ∙ get_at p.before p.token p.behind no_token in
    record { at = p.at ∙ ap (λ t. t.span.start) (sym here); deep = scan_finds ts (length p.before) (record { before = p.before; token = p.token; behind = p.behind; all = p.all; is_number = refl; deep = p.deep; first = p.shallow }); begins = subst BeginSource (sym through) p.begins }

-- a source begins by each of its fronts
source_begins : (text : List ℕ) (ts : List Token) (v : Source) → IsSource text ts v → (before : List Token) (token : Token) (behind : List Token) → ts ≡ before ++ token ∷ behind → BeginSource (before ++ token ∷ [])
source_begins text ts v p before token behind all =
    let whole : Spells Symbol rule (sentence ∷ []) (kinds ts) = (texts_trees Symbol Token rule (λ t. code_of t.kind) sentence ts).1 (Both p.tree p.end, p.makes) in
    let split : kinds ts ≡ kinds (before ++ token ∷ []) ++ kinds behind = ap kinds (all ∙ sym (append_assoc before (token ∷ []) behind)) ∙ kinds-append (before ++ token ∷ []) behind in
    (fronts Symbol rule F E 10 language_ll1 (sentence ∷ []) refl (kinds (before ++ token ∷ [])) (kinds behind)).text (subst (Spells Symbol rule (sentence ∷ [])) split whole)

left_of : Tree Token → Tree Token → Tree Token
left_of d (Both x y) = x
left_of d _ = d

tokens_once : (text : List ℕ) (ts : List Token) (r s : Result Source ParseFault) → IsOutcome text ts r → IsOutcome text ts s → r ≡ s
unfolding left_of
tokens_once text ts (Ok v) (Ok w) p q =
    let same = only_tree Symbol Token rule (λ t. code_of t.kind) F E 10 language_ll1 ones sentence refl refl ts (Both p.source.tree p.source.end) (Both q.source.tree q.source.end) p.source.makes q.source.makes in
    let trees : p.source.tree ≡ q.source.tree = ap (left_of p.source.tree) same in
    ap Ok (p.source.stands ∙ ap (source_of text) trees ∙ sym q.source.stands)
tokens_once text ts (Ok v) (Err (fault.Unexpected k o)) p q = absurd (q.ends (source_begins text ts v p.source q.before q.token q.behind q.all))
tokens_once text ts (Err (fault.Unexpected k o)) (Ok v) p q = absurd (p.ends (source_begins text ts v q.source p.before p.token p.behind p.all))
tokens_once text ts (Ok v) (Err (fault.TooDeep o)) p q = absurd (p.shallow q.before q.token q.behind q.all q.deep)
tokens_once text ts (Err (fault.TooDeep o)) (Ok v) p q = absurd (q.shallow p.before p.token p.behind p.all p.deep)
tokens_once text ts (Err (fault.Unexpected k o)) (Err (fault.Unexpected l u)) p q =
    let x = unexpected_facts ts k o p in
    let y = unexpected_facts ts l u q in
    let same : k ≡ l = elim (cases_lt k l) [
      | inl less ↦ absurd (x.ends (begins_less ts (suc k) l (omega (arith, less)) y.begins))
      | inr more ↦ elim (cases_lt l k) [
        | inl less ↦ absurd (y.ends (begins_less ts (suc l) k (omega (arith, less)) x.begins))
        | inr most ↦ omega (arith, more, most)
      ]
    ] in
    ap (λ n. Err (fault.Unexpected n o)) same ∙ ap (λ n. Err (fault.Unexpected l n)) (x.at ∙ ap (λ n. (get_or ts n no_token).span.start) same ∙ sym y.at)
tokens_once text ts (Err (fault.Unexpected k o)) (Err (fault.TooDeep u)) p q =
    let x = unexpected_facts ts k o p in
    let y = too_deep_facts ts u q in
    let le : k ≤ length q.before = subst (NoneBefore k) y.deep x.shallow in
    absurd (x.ends (begins_less ts (suc k) (suc (length q.before)) (omega (arith, le)) y.begins))
tokens_once text ts (Err (fault.TooDeep u)) (Err (fault.Unexpected k o)) p q =
    let x = unexpected_facts ts k o q in
    let y = too_deep_facts ts u p in
    let le : k ≤ length p.before = subst (NoneBefore k) y.deep x.shallow in
    absurd (x.ends (begins_less ts (suc k) (suc (length p.before)) (omega (arith, le)) y.begins))
tokens_once text ts (Err (fault.TooDeep o)) (Err (fault.TooDeep u)) p q =
    let x = too_deep_facts ts o p in
    let y = too_deep_facts ts u q in
    let h : Some (length p.before) ≡ Some (length q.before) = sym x.deep ∙ y.deep in
    let same : length p.before ≡ length q.before = cc in
    ap (λ n. Err (fault.TooDeep n)) (x.at ∙ ap (λ n. (get_or ts n no_token).span.start) same ∙ sym y.at)
tokens_once text ts (Ok v) (Err (fault.BadByte b2)) p q = absurd q
tokens_once text ts (Ok v) (Err (fault.TooLong n2)) p q = absurd q
tokens_once text ts (Ok v) (Err fault.Memory) p q = absurd q
tokens_once text ts (Err (fault.Unexpected k o)) (Err (fault.BadByte b2)) p q = absurd q
tokens_once text ts (Err (fault.Unexpected k o)) (Err (fault.TooLong n2)) p q = absurd q
tokens_once text ts (Err (fault.Unexpected k o)) (Err fault.Memory) p q = absurd q
tokens_once text ts (Err (fault.TooDeep o)) (Err (fault.BadByte b2)) p q = absurd q
tokens_once text ts (Err (fault.TooDeep o)) (Err (fault.TooLong n2)) p q = absurd q
tokens_once text ts (Err (fault.TooDeep o)) (Err fault.Memory) p q = absurd q
tokens_once text ts (Err (fault.BadByte b)) (Ok w) p q = absurd p
tokens_once text ts (Err (fault.BadByte b)) (Err (fault.Unexpected k2 o2)) p q = absurd p
tokens_once text ts (Err (fault.BadByte b)) (Err (fault.TooDeep o2)) p q = absurd p
tokens_once text ts (Err (fault.BadByte b)) (Err (fault.BadByte b2)) p q = absurd p
tokens_once text ts (Err (fault.BadByte b)) (Err (fault.TooLong n2)) p q = absurd p
tokens_once text ts (Err (fault.BadByte b)) (Err fault.Memory) p q = absurd p
tokens_once text ts (Err (fault.TooLong n)) (Ok w) p q = absurd p
tokens_once text ts (Err (fault.TooLong n)) (Err (fault.Unexpected k2 o2)) p q = absurd p
tokens_once text ts (Err (fault.TooLong n)) (Err (fault.TooDeep o2)) p q = absurd p
tokens_once text ts (Err (fault.TooLong n)) (Err (fault.BadByte b2)) p q = absurd p
tokens_once text ts (Err (fault.TooLong n)) (Err (fault.TooLong n2)) p q = absurd p
tokens_once text ts (Err (fault.TooLong n)) (Err fault.Memory) p q = absurd p
tokens_once text ts (Err fault.Memory) (Ok w) p q = absurd p
tokens_once text ts (Err fault.Memory) (Err (fault.Unexpected k2 o2)) p q = absurd p
tokens_once text ts (Err fault.Memory) (Err (fault.TooDeep o2)) p q = absurd p
tokens_once text ts (Err fault.Memory) (Err (fault.BadByte b2)) p q = absurd p
tokens_once text ts (Err fault.Memory) (Err (fault.TooLong n2)) p q = absurd p
tokens_once text ts (Err fault.Memory) (Err fault.Memory) p q = absurd p

has_tokens_once : (bytes : List ℕ) (r s : Result Source ParseFault) → HasTokens bytes (λ ts. IsOutcome bytes ts r) → HasTokens bytes (λ ts. IsOutcome bytes ts s) → r ≡ s
has_tokens_once bytes r s p q =
    let same = (lexes_once bytes).one_list p.tokens q.tokens p.lexes q.lexes in
    tokens_once bytes q.tokens r s (subst (λ ts. IsOutcome bytes ts r) same p.holds) q.holds

pub parses_once : (bytes : List ℕ) → ParsesOnce bytes
parses_once bytes (Ok v) (Ok w) p q = has_tokens_once bytes (Ok v) (Ok w) p q
parses_once bytes (Ok v) (Err (fault.Unexpected k2 o2)) p q = has_tokens_once bytes (Ok v) (Err (fault.Unexpected k2 o2)) p q
parses_once bytes (Ok v) (Err (fault.TooDeep o2)) p q = has_tokens_once bytes (Ok v) (Err (fault.TooDeep o2)) p q
parses_once bytes (Ok v) (Err (fault.BadByte b2)) p q = absurd ((lexes_once bytes).apart p.tokens b2 p.lexes q.1)
parses_once bytes (Ok v) (Err (fault.TooLong n2)) p q = absurd (omega (arith, p.short, q.0))
parses_once bytes (Ok v) (Err fault.Memory) p q = absurd q
parses_once bytes (Err (fault.Unexpected k o)) (Ok w) p q = has_tokens_once bytes (Err (fault.Unexpected k o)) (Ok w) p q
parses_once bytes (Err (fault.Unexpected k o)) (Err (fault.Unexpected k2 o2)) p q = has_tokens_once bytes (Err (fault.Unexpected k o)) (Err (fault.Unexpected k2 o2)) p q
parses_once bytes (Err (fault.Unexpected k o)) (Err (fault.TooDeep o2)) p q = has_tokens_once bytes (Err (fault.Unexpected k o)) (Err (fault.TooDeep o2)) p q
parses_once bytes (Err (fault.Unexpected k o)) (Err (fault.BadByte b2)) p q = absurd ((lexes_once bytes).apart p.tokens b2 p.lexes q.1)
parses_once bytes (Err (fault.Unexpected k o)) (Err (fault.TooLong n2)) p q = absurd (omega (arith, p.short, q.0))
parses_once bytes (Err (fault.Unexpected k o)) (Err fault.Memory) p q = absurd q
parses_once bytes (Err (fault.TooDeep o)) (Ok w) p q = has_tokens_once bytes (Err (fault.TooDeep o)) (Ok w) p q
parses_once bytes (Err (fault.TooDeep o)) (Err (fault.Unexpected k2 o2)) p q = has_tokens_once bytes (Err (fault.TooDeep o)) (Err (fault.Unexpected k2 o2)) p q
parses_once bytes (Err (fault.TooDeep o)) (Err (fault.TooDeep o2)) p q = has_tokens_once bytes (Err (fault.TooDeep o)) (Err (fault.TooDeep o2)) p q
parses_once bytes (Err (fault.TooDeep o)) (Err (fault.BadByte b2)) p q = absurd ((lexes_once bytes).apart p.tokens b2 p.lexes q.1)
parses_once bytes (Err (fault.TooDeep o)) (Err (fault.TooLong n2)) p q = absurd (omega (arith, p.short, q.0))
parses_once bytes (Err (fault.TooDeep o)) (Err fault.Memory) p q = absurd q
parses_once bytes (Err (fault.BadByte b)) (Ok w) p q = absurd ((lexes_once bytes).apart q.tokens b q.lexes p.1)
parses_once bytes (Err (fault.BadByte b)) (Err (fault.Unexpected k2 o2)) p q = absurd ((lexes_once bytes).apart q.tokens b q.lexes p.1)
parses_once bytes (Err (fault.BadByte b)) (Err (fault.TooDeep o2)) p q = absurd ((lexes_once bytes).apart q.tokens b q.lexes p.1)
parses_once bytes (Err (fault.BadByte b)) (Err (fault.BadByte b2)) p q = ap (λ m. Err (fault.BadByte m)) ((lexes_once bytes).one_fault b b2 p.1 q.1)
parses_once bytes (Err (fault.BadByte b)) (Err (fault.TooLong n2)) p q = absurd (omega (arith, p.0, q.0))
parses_once bytes (Err (fault.BadByte b)) (Err fault.Memory) p q = absurd q
parses_once bytes (Err (fault.TooLong n)) (Ok w) p q = absurd (omega (arith, q.short, p.0))
parses_once bytes (Err (fault.TooLong n)) (Err (fault.Unexpected k2 o2)) p q = absurd (omega (arith, q.short, p.0))
parses_once bytes (Err (fault.TooLong n)) (Err (fault.TooDeep o2)) p q = absurd (omega (arith, q.short, p.0))
parses_once bytes (Err (fault.TooLong n)) (Err (fault.BadByte b2)) p q = absurd (omega (arith, q.0, p.0))
parses_once bytes (Err (fault.TooLong n)) (Err (fault.TooLong n2)) p q = ap (λ m. Err (fault.TooLong m)) (p.1 ∙ sym q.1)
parses_once bytes (Err (fault.TooLong n)) (Err fault.Memory) p q = absurd q
parses_once bytes (Err fault.Memory) (Ok w) p q = absurd p
parses_once bytes (Err fault.Memory) (Err (fault.Unexpected k2 o2)) p q = absurd p
parses_once bytes (Err fault.Memory) (Err (fault.TooDeep o2)) p q = absurd p
parses_once bytes (Err fault.Memory) (Err (fault.BadByte b2)) p q = absurd p
parses_once bytes (Err fault.Memory) (Err (fault.TooLong n2)) p q = absurd p
parses_once bytes (Err fault.Memory) (Err fault.Memory) p q = absurd p
