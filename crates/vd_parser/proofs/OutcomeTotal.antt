-- All bytes have an outcome.
use Rattle.std.proofs.Common.{◌≡◌, ℕ, ◌+◌, ◌-◌, ◌≤◌, true, List, [], ◌∷◌, ◌++◌, ◌⊎◌, inl, inr, length, take, get_or, Option, Some, None, Result, Ok, Err, nat_eq, refl, sym, ap, ◌∙◌, subst, true≢false, arith}
use Rattle.std.proofs.lemmas.List.{take_all}
use Rattle.std.proofs.Math.Seq.{take-length}
use Rattle.std.proofs.lemmas.Bool.{cases_lt, or_right, both_ways}
use Rattle.vd_source_lexer.specs.Grammar.{Ebnf, Tok, Sym, Seq, Derives, d-seq, d-tok, Begins, b-none, b-tok, b-first, b-next, Spells, Starts, NothingLeft}
use Rattle.vd_source_lexer.specs.Machine.{has, run}
use Rattle.vd_source_lexer.specs.Trees.{Tree, Both, Makes, m-seq}
use Rattle.vd_source_lexer.specs.Laws.{FirstUnexpected, Taken}
use Rattle.vd_source_lexer.proofs.Front.{absent, starts_absent, exact, texts_trees}
use Rattle.vd_core.specs.declared.source.Source.{Source}
use Rattle.vd_source_lexer.specs.Kinds.{code_of}
use Rattle.vd_source_lexer.specs.Tokens.{EndsOnce, kinds, Lexes}
use Rattle.vd_source_lexer.specs.declared.token.Token.{Token}
use Rattle.vd_source_lexer.proofs.Front.{lexes_once, ends_once}
use Rattle.vd_parser.specs.declared.fault.ParseFault.{ParseFault}
use Rattle.vd_parser.specs.declared.fault.ParseFault.TheVariants as fault
use Rattle.vd_parser.specs.Language.{Symbol, rule, SOURCE, HOST, LABEL, FORM, CONJ, FATOM, FUN, PARAM, KIND, BLOCK, STMT, EXPR, BOR, BXOR, BAND, SHIFT, SUM, PROD, UNARY, ATOM}
use Rattle.vd_parser.specs.Syntax.{no_token, source_of}
use Rattle.vd_parser.specs.Outcomes.{sentence, BeginSource, IsUnexpected, IsParse, ParsesSomehow}
use Rattle.vd_parser.specs.Whole.{IsOutcome}
use Rattle.vd_parser.proofs.Ready.{F, E, language_ll1}
use Rattle.vd_parser.proofs.Scan.{first_deep, NoneBefore, none_in_front, none_deep}
use Rattle.vd_parser.proofs.Outcomes.{closed_of, kinds-append, split, too_deep}
use Rattle.vd_parser.proofs.OutcomeLaws.{begins_less, take_front}

-- the end stands in no rule
no_end : (s : Symbol) → absent 0 (rule s) ≡ true
no_end SOURCE = refl
no_end HOST = refl
no_end LABEL = refl
no_end FORM = refl
no_end CONJ = refl
no_end FATOM = refl
no_end FUN = refl
no_end PARAM = refl
no_end KIND = refl
no_end BLOCK = refl
no_end STMT = refl
no_end EXPR = refl
no_end BOR = refl
no_end BXOR = refl
no_end BAND = refl
no_end SHIFT = refl
no_end SUM = refl
no_end PROD = refl
no_end UNARY = refl
no_end ATOM = refl

seq_inv : {a b : Ebnf Symbol} {us : List ℕ} → Begins Symbol rule (Seq a b) us → (us ≡ []) ⊎ (Begins Symbol rule a us ⊎ ((mid : List ℕ) × Derives Symbol rule a us mid × Begins Symbol rule b mid))
seq_inv b-none = inl refl
seq_inv (b-first g) = inr (inl g)
seq_inv (b-next {mid = m} g h) = inr (inr (m, g, h))

tok_inv : {c : ℕ} {us : List ℕ} → Begins Symbol rule (Tok c) us → (us ≡ []) ⊎ (us ≡ c ∷ [])
tok_inv b-none = inl refl
tok_inv b-tok = inr refl

-- what begins a source and has the end is a source
spelled : (us : List ℕ) → has 0 us ≡ true → Starts Symbol rule (sentence ∷ []) us → Spells Symbol rule (sentence ∷ []) us
spelled us h (inr p) = p
spelled us h (inl g) = elim (seq_inv g) [
  | inl none ↦ absurd (true≢false (sym (subst (λ xs. has 0 xs ≡ true) none h)))
  | inr (inl b) ↦ absurd (both_ways _ (starts_absent Symbol rule 0 no_end (Sym SOURCE ∷ []) us (refl, tt) (inl b)) h)
  | inr (inr p) ↦ elim (tok_inv p.2) [
    | inl none ↦ absurd (both_ways _ (starts_absent Symbol rule 0 no_end (Sym SOURCE ∷ []) us (refl, tt) (inr (p.0, p.1, subst NothingLeft (sym none) tt))) h)
    | inr one ↦ ([], d-seq (subst (λ m. Derives Symbol rule (Sym SOURCE) us m) one p.1) d-tok, tt)
  ]
]

has_last : (xs : List ℕ) → has 0 (xs ++ 0 ∷ []) ≡ true
has_last [] = refl
has_last (x ∷ xs) = or_right (nat_eq 0 x) _ (has_last xs)

has_end : (ts : List Token) → EndsOnce (kinds ts) → has 0 (kinds ts) ≡ true
has_end ts h =
    let c = closed_of ts h in
    let e : kinds ts ≡ kinds (take (length ts - 1) ts) ++ 0 ∷ [] = ap kinds c.all ∙ kinds-append (take (length ts - 1) ts) (c.last ∷ []) ∙ ap (λ n. kinds (take (length ts - 1) ts) ++ n ∷ []) c.kind_is in
    subst (λ xs. has 0 xs ≡ true) (sym e) (has_last (kinds (take (length ts - 1) ts)))

both_inv : {a b : Ebnf Symbol} {ts us : List Token} {x : Tree Token} → Makes Symbol Token rule (λ t. code_of t.kind) (Seq a b) ts us x → (y : Tree Token) × (z : Tree Token) × (Both y z ≡ x)
both_inv (m-seq {x = y} {y = z} g h) = (y, z, refl)

module _ (text : List ℕ) (ts : List Token) (ended : EndsOnce (kinds ts)) where
  refused : (us : List ℕ) → FirstUnexpected Symbol rule (sentence ∷ []) (kinds ts) us → (o : Option ℕ) → first_deep ts ≡ o → (r : Result Source ParseFault) × IsOutcome text ts r
  refused us r o e =
      let s = split ts r.before r.token r.behind r.all in
      let through : kinds (s.before ++ s.token ∷ []) ≡ r.before ++ r.token ∷ [] = kinds-append s.before (s.token ∷ []) ∙ ap (λ xs. xs ++ code_of s.token.kind ∷ []) s.kinds_are ∙ ap (λ n. r.before ++ n ∷ []) s.kind_is in
      let begins : BeginSource s.before = subst (Starts Symbol rule (sentence ∷ [])) (sym s.kinds_are) r.begins in
      let here : NoneBefore (length s.before) (first_deep ts) → IsUnexpected ts (length s.before) s.token.span.start = (λ shallow. record {
        before = s.before;
        token = s.token;
        behind = s.behind;
        all = s.all;
        number = refl;
        at = refl;
        begins = begins;
        ends = λ q. r.ends (subst (Starts Symbol rule (sentence ∷ [])) through q);
        shallow = none_in_front ts s.before (s.token ∷ s.behind) s.all shallow;
      }) in
      go o e (length s.before) s.token.span.start here (subst BeginSource (sym (ap (take (length s.before)) s.all ∙ take_front s.before s.token s.behind)) begins)
    where
      go : (o : Option ℕ) → first_deep ts ≡ o → (k off : ℕ) → (NoneBefore k (first_deep ts) → IsUnexpected ts k off) → BeginSource (take k ts) → (r : Result Source ParseFault) × IsOutcome text ts r
      go None e k off here begins = (Err (fault.Unexpected k off), here (subst (NoneBefore k) (sym e) tt))
      go (Some d) e k off here begins = elim (cases_lt d k) [
        | inr le ↦ (Err (fault.Unexpected k off), here (subst (NoneBefore k) (sym e) le))
        | inl less ↦ (Err (fault.TooDeep (get_or ts d no_token).span.start), too_deep ts d e no_token (begins_less ts (d + 1) k (omega (arith, less)) begins))
      ]

  taken : BeginSource ts → (o : Option ℕ) → first_deep ts ≡ o → (r : Result Source ParseFault) × IsOutcome text ts r
  taken q None e =
      let x = (texts_trees Symbol Token rule (λ t. code_of t.kind) sentence ts).0 (spelled (kinds ts) (has_end ts ended) q) in
      let i = both_inv x.1 in (
        Ok (source_of text i.0),
        record {
          source = record { tree = i.0; end = i.1; makes = subst (λ y. Makes Symbol Token rule (λ t. code_of t.kind) sentence ts [] y) (sym i.2) x.1; stands = refl };
          shallow = none_deep ts e;
        },
      )
  taken q (Some d) e =
      let le : BeginSource (take (d + 1) ts) = begins_less_all d q in
      (Err (fault.TooDeep (get_or ts d no_token).span.start), too_deep ts d e no_token le)
    where
      begins_less_all : (d : ℕ) → BeginSource ts → BeginSource (take (d + 1) ts)
      begins_less_all d q = elim (cases_lt (d + 1) (length ts)) [
        | inl less ↦ begins_less ts (d + 1) (length ts) (omega (arith, less)) (subst BeginSource (sym (take-length ts)) q)
        | inr most ↦ subst BeginSource (sym (take_all (d + 1) ts most)) q
      ]

  outcome : (r : Result Source ParseFault) × IsOutcome text ts r
  outcome = go (run rule F 10 (sentence ∷ []) (kinds ts)) refl
    where
      go : (r : Result (List (Ebnf Symbol)) (List ℕ)) → run rule F 10 (sentence ∷ []) (kinds ts) ≡ r → (s : Result Source ParseFault) × IsOutcome text ts s
      go (Ok left) e = taken ((exact Symbol rule F E 10 language_ll1 (sentence ∷ []) refl (kinds ts)).beginnings.1 (subst Taken (sym e) tt)) (first_deep ts) refl
      go (Err us) e = refused us ((exact Symbol rule F E 10 language_ll1 (sentence ∷ []) refl (kinds ts)).refusals us e) (first_deep ts) refl

parse_of : (bytes : List ℕ) (ts : List Token) (r : Result Source ParseFault) → length bytes ≤ 65536 → Lexes bytes 0 ts → IsOutcome bytes ts r → IsParse bytes r
parse_of bytes ts (Ok v) h l p = record { short = h; tokens = ts; lexes = l; holds = p }
parse_of bytes ts (Err (fault.Unexpected k o)) h l p = record { short = h; tokens = ts; lexes = l; holds = p }
parse_of bytes ts (Err (fault.TooDeep o)) h l p = record { short = h; tokens = ts; lexes = l; holds = p }
parse_of bytes ts (Err (fault.BadByte o)) h l p = absurd p
parse_of bytes ts (Err (fault.TooLong o)) h l p = absurd p
parse_of bytes ts (Err fault.Memory) h l p = absurd p

pub parses_somehow : (bytes : List ℕ) → ParsesSomehow bytes
parses_somehow bytes = elim (cases_lt 65536 (length bytes)) [
  | inl long ↦ (Err (fault.TooLong (length bytes)), (long, refl))
  | inr short ↦ elim (lexes_once bytes).some [
    | inl found ↦ (let r = outcome bytes found.0 (ends_once found.1) in (r.0, parse_of bytes found.0 r.0 short found.1 r.1))
    | inr bad ↦ (Err (fault.BadByte bad.0), (short, bad.1))
  ]
]
