-- What the machine says of kinds, said of tokens.
use Rattle.std.proofs.Common.{◌≡◌, ℕ, zero, suc, ◌+◌, ◌-◌, ◌<◌, ◌≤◌, true, List, [], ◌∷◌, ◌++◌, ◌⊎◌, inl, inr, length, take, drop, get_or, Some, None, refl, sym, ap, ◌∙◌, subst, true≢false, arith, length-append, append_assoc, ◌^◌, Result, Ok, Err, length-drop}
use Rattle.std.proofs.lemmas.List.{length-map}
use Rattle.std.proofs.lemmas.Bool.{cases_lt}
use Rattle.vd_source_lexer.specs.Grammar.{Ebnf, Sym, Starts, b-none, b-next}
use Rattle.vd_source_lexer.specs.Trees.{Tree, Leaf, Both, Makes, m-tok, m-sym, m-eps, m-seq, m-left, m-right, m-stop, m-more}
use Rattle.vd_source_lexer.specs.Laws.{FirstUnexpected}
use Rattle.vd_source_lexer.specs.Reading.{Stops, Gives}
use Rattle.vd_source_lexer.proofs.Front.{exact, makes_derives}
use Rattle.vd_core.specs.declared.source.Source.{Source}
use Rattle.vd_source_lexer.specs.Kinds.{code_of}
use Rattle.vd_source_lexer.specs.Tokens.{EndsOnce, kinds, Lexes, lexes_end, lexes_blank, lexes_token, IsWithin}
use Rattle.vd_source_lexer.specs.declared.piece.Piece.TheVariants.{Lexeme}
use Rattle.vd_source_lexer.proofs.Front.{piece_within}
use Rattle.vd_parser.specs.declared.fault.ParseFault.{ParseFault}
use Rattle.vd_parser.specs.declared.fault.ParseFault.TheVariants as fault
use Rattle.vd_source_lexer.specs.declared.token.Token.{Token}
use Rattle.vd_source_lexer.specs.declared.token.TokenKind.{TokenKind}
use Rattle.vd_source_lexer.specs.declared.token.TokenKind.TheVariants as kind
use Rattle.vd_parser.specs.declared.cursor.Refusal.TheVariants as refusal
use Rattle.vd_parser.specs.Language.{Symbol, rule, SOURCE}
use Rattle.vd_parser.specs.Syntax.{source_of}
use Rattle.vd_parser.specs.Parsing.{language, next_kind, Refused}
use Rattle.vd_parser.specs.Nesting.{opens}
use Rattle.vd_parser.specs.Whole.{NoEnd, IsOutcome}
use Rattle.vd_parser.specs.Outcomes.{sentence, BeginSource, IsSource, IsUnexpected, IsTooDeep, IsParse}
use Rattle.vd_parser.proofs.Ready.{F, E, language_ll1}
use Rattle.vd_parser.proofs.Scan.{first_deep, NoneBefore, deep_at, none_in_front}

-- lists
pub record Split (ts : List Token) (xs : List ℕ) (y : ℕ) : Type 0 where
  pub before : List Token
  pub token : Token
  pub behind : List Token
  pub all : ts ≡ before ++ token ∷ behind
  pub kinds_are : kinds before ≡ xs
  pub kind_is : code_of token.kind ≡ y

pub split : (ts : List Token) (xs : List ℕ) (y : ℕ) (ys : List ℕ) → kinds ts ≡ xs ++ y ∷ ys → Split ts xs y
split [] [] y ys e = absurd cc
split [] (x ∷ xs) y ys e = absurd cc
split (t ∷ ts) [] y ys e = record { before = []; token = t; behind = ts; all = refl; kinds_are = refl; kind_is = cc }
split (t ∷ ts) (x ∷ xs) y ys e =
    let rest : kinds ts ≡ xs ++ y ∷ ys = cc in
    let first : code_of t.kind ≡ x = cc in
    let r = split ts xs y ys rest in
    record {
      before = t ∷ r.before;
      token = r.token;
      behind = r.behind;
      all = ap (λ us. t ∷ us) r.all;
      kinds_are = ap (λ n. n ∷ kinds r.before) first ∙ ap (λ us. x ∷ us) r.kinds_are;
      kind_is = r.kind_is;
    }

pub get_at : (xs : List Token) (t : Token) (ys : List Token) (d : Token) → get_or (xs ++ t ∷ ys) (length xs) d ≡ t
get_at [] t ys d = refl
get_at (x ∷ xs) t ys d = get_at xs t ys d

pub take_at : (xs : List Token) (t : Token) (ys : List Token) → take (suc (length xs)) (xs ++ t ∷ ys) ≡ xs ++ t ∷ []
take_at [] t ys = refl
take_at (x ∷ xs) t ys = ap (λ us. x ∷ us) (take_at xs t ys)

pub kinds-append : (xs ys : List Token) → kinds (xs ++ ys) ≡ kinds xs ++ kinds ys
kinds-append [] ys = refl
kinds-append (x ∷ xs) ys = ap (λ us. code_of x.kind ∷ us) (kinds-append xs ys)

take_drop : (n : ℕ) (xs : List Token) → take n xs ++ drop n xs ≡ xs
take_drop zero xs = refl
take_drop (suc n) [] = refl
take_drop (suc n) (y ∷ xs) = ap (λ ys. y ∷ ys) (take_drop n xs)

take_length : (n : ℕ) (xs : List Token) → n ≤ length xs → length (take n xs) ≡ n
take_length zero xs h = refl
take_length (suc n) [] h = absurd (omega (arith, h))
take_length (suc n) (y ∷ xs) h = (let r = take_length n xs (omega (arith, h)) in omega (arith, r))

-- both lists end with the same
same_front : (xs ys : List ℕ) (n m : ℕ) → xs ++ n ∷ [] ≡ ys ++ m ∷ [] → xs ≡ ys
same_front [] [] n m e = refl
same_front [] (y ∷ []) n m e = absurd cc
same_front [] (y ∷ z ∷ ys) n m e = absurd cc
same_front (x ∷ []) [] n m e = absurd cc
same_front (x ∷ z ∷ xs) [] n m e = absurd cc
same_front (x ∷ xs) (y ∷ ys) n m e =
    let first : x ≡ y = cc in
    let rest : xs ++ n ∷ [] ≡ ys ++ m ∷ [] = cc in
    ap (λ z. z ∷ xs) first ∙ ap (λ zs. y ∷ zs) (same_front xs ys n m rest)

-- the last token is the end
pub record Closed (ts : List Token) (m : ℕ) : Type 0 where
  pub last : Token
  pub all : ts ≡ take m ts ++ last ∷ []
  pub kind_is : code_of last.kind ≡ 0

closed : (ts : List Token) (m : ℕ) → m + 1 ≡ length ts → get_or (kinds ts) m 0 ≡ 0 → Closed ts m
closed [] m e h = absurd (omega (arith, e))
closed (t ∷ []) zero e h = record { last = t; all = refl; kind_is = h }
closed (t ∷ u ∷ us) zero e h = absurd (omega (arith, e))
closed (t ∷ ts) (suc m) e h =
    let shorter : m + 1 ≡ length ts = omega (arith, e) in
    let r = closed ts m shorter h in
    record { last = r.last; all = ap (λ us. t ∷ us) r.all; kind_is = r.kind_is }

pub closed_of : (ts : List Token) → EndsOnce (kinds ts) → Closed ts (length ts - 1)
closed_of ts h =
    let len : length (kinds ts) ≡ length ts = length-map ts (λ t. code_of t.kind) in
    let some : 0 < length ts = subst (λ n. 0 < n) len h.some in
    let before : length ts - 1 + 1 ≡ length ts = omega (arith, some) in
    closed ts (length ts - 1) before (subst (λ n. get_or (kinds ts) (n - 1) 0 ≡ 0) len h.end)

no_end_from : (ts : List Token) (m : ℕ) → m + 1 ≤ length ts → ((i : ℕ) → get_or (kinds ts) i 0 ≡ 0 → length ts ≤ i + 1) → NoEnd (take m ts)
no_end_from [] m h only = absurd (omega (arith, h))
no_end_from (t ∷ ts) zero h only = tt
no_end_from (t ∷ ts) (suc m) h only = (
  λ e. (let few : length (t ∷ ts) ≤ 0 + 1 = only 0 e in absurd (omega (arith, h, few))),
  no_end_from ts m (omega (arith, h)) (λ i e. let more : length (t ∷ ts) ≤ suc i + 1 = only (suc i) e in omega (arith, more)),
)

pub no_end : (ts : List Token) (m : ℕ) → EndsOnce (kinds ts) → m + 1 ≤ length ts → NoEnd (take m ts)
no_end ts m h le =
    let len : length (kinds ts) ≡ length ts = length-map ts (λ t. code_of t.kind) in
    no_end_from ts m le (λ i e. subst (λ n. n ≤ i + 1) len (h.only i e))

-- texts
extend : {e : Ebnf Symbol} {ts us : List Token} {x : Tree Token} → Makes Symbol Token rule (λ t. code_of t.kind) e ts us x → (w : List Token) → Makes Symbol Token rule (λ t. code_of t.kind) e (ts ++ w) (us ++ w) x
extend (m-tok e) w = m-tok e
extend (m-sym g) w = m-sym (extend g w)
extend m-eps w = m-eps
extend (m-seq g h) w = m-seq (extend g w) (extend h w)
extend (m-left g) w = m-left (extend g w)
extend (m-right g) w = m-right (extend g w)
extend m-stop w = m-stop
extend (m-more g h) w = m-more (extend g w) (extend h w)

makes_within : {e : Ebnf Symbol} {ts us : List Token} {x : Tree Token} → Makes Symbol Token rule (λ t. code_of t.kind) e ts us x → NoEnd ts → NoEnd us
makes_within (m-tok e) h = h.1
makes_within (m-sym g) h = makes_within g h
makes_within m-eps h = h
makes_within (m-seq g i) h = makes_within i (makes_within g h)
makes_within (m-left g) h = makes_within g h
makes_within (m-right g) h = makes_within g h
makes_within m-stop h = h
makes_within (m-more g i) h = makes_within i (makes_within g h)

none_left : (us : List Token) → NoEnd us → next_kind us ≡ 0 → us ≡ []
none_left [] h e = refl
none_left (t ∷ us) h e = absurd (h.0 e)

pub whole_text : {X : Type 0} {e : Ebnf Symbol} {of : Tree Token → X} {ts us : List Token} {v : X} → NoEnd ts → Gives language e of ts us v → next_kind us ≡ 0 → Gives language e of ts [] v × (us ≡ [])
unfolding language
whole_text {e = e} {of = of} {ts = ts} {us = us} {v = v} h r last =
    let none = none_left us (makes_within r.read.makes h) last in
    (subst (λ ws. Gives language e of ts ws v) none r, none)

-- a whole text, with the end after it
pub is_source : (text : List ℕ) (ts : List Token) (m : ℕ) (v : Source) → Closed ts m → Gives language (Sym SOURCE) (source_of text) (take m ts) [] v → IsSource text ts v
unfolding language
is_source text ts m v c r = record {
  tree = r.tree;
  end = Leaf c.last;
  makes = subst (λ us. Makes Symbol Token rule (λ t. code_of t.kind) sentence us [] (Both r.tree (Leaf c.last))) (sym c.all) (m-seq (extend r.read.makes (c.last ∷ [])) (m-tok c.kind_is));
  stands = r.value;
}

begins_whole : (text : List ℕ) (ts : List Token) (v : Source) → Gives language (Sym SOURCE) (source_of text) ts [] v → BeginSource ts
unfolding language
begins_whole text ts v r = inl (b-next (makes_derives Symbol Token rule (λ t. code_of t.kind) r.read.makes) b-none)

-- where the machine stops
stopped : (ts us : List Token) → Stops language sentence ts us → FirstUnexpected Symbol rule (sentence ∷ []) (kinds ts ++ 0 ∷ []) (kinds us ++ 0 ∷ [])
unfolding language
stopped ts us s = (exact Symbol rule F E 10 language_ll1 (sentence ∷ []) refl (kinds ts ++ 0 ∷ [])).refusals (kinds us ++ 0 ∷ []) (s.runs [])

module _ (ts us : List Token) (shorter : length us ≤ length ts) (r : FirstUnexpected Symbol rule (sentence ∷ []) (kinds ts ++ 0 ∷ []) (kinds us ++ 0 ∷ [])) where
  number_before : length r.before ≡ length ts - length us
  number_before =
      let a : length (kinds ts ++ 0 ∷ []) ≡ length ts + 1 = length-append (kinds ts) (0 ∷ []) ∙ ap (λ n. n + 1) (length-map ts (λ t. code_of t.kind)) in
      let b : length (kinds us ++ 0 ∷ []) ≡ length us + 1 = length-append (kinds us) (0 ∷ []) ∙ ap (λ n. n + 1) (length-map us (λ t. code_of t.kind)) in
      let c : length (kinds ts ++ 0 ∷ []) ≡ length r.before + length (r.token ∷ r.behind) = ap length r.all ∙ length-append r.before (r.token ∷ r.behind) in
      let d : length (kinds us ++ 0 ∷ []) ≡ length (r.token ∷ r.behind) = ap length r.rest in
      omega (arith, a, b, c, d, shorter)

-- the tokens agree with those that the machine read, as far as its stop
unexpected : (all : List Token) (ts us : List Token) (r : FirstUnexpected Symbol rule (sentence ∷ []) (kinds ts ++ 0 ∷ []) (kinds us ++ 0 ∷ [])) (rest : List ℕ) (k : ℕ) (d : Token) →
    kinds all ≡ r.before ++ r.token ∷ rest → k ≡ length r.before → NoneBefore k (first_deep all) → IsUnexpected all k (get_or all k d).span.start
unexpected all ts us r rest k d agree number shallow =
    let s = split all r.before r.token rest agree in
    let len : k ≡ length s.before = number ∙ ap length (sym s.kinds_are) ∙ length-map s.before (λ t. code_of t.kind) in
    let at : get_or all k d ≡ s.token = ap (λ n. get_or all n d) len ∙ ap (λ xs. get_or xs (length s.before) d) s.all ∙ get_at s.before s.token s.behind d in
    let through : kinds (s.before ++ s.token ∷ []) ≡ r.before ++ r.token ∷ [] = kinds-append s.before (s.token ∷ []) ∙ ap (λ xs. xs ++ code_of s.token.kind ∷ []) s.kinds_are ∙ ap (λ n. r.before ++ n ∷ []) s.kind_is in
    record {
      before = s.before;
      token = s.token;
      behind = s.behind;
      all = s.all;
      number = len;
      at = ap (λ t. t.span.start) at;
      begins = subst (Starts Symbol rule (sentence ∷ [])) (sym s.kinds_are) r.begins;
      ends = λ q. r.ends (subst (Starts Symbol rule (sentence ∷ [])) through q);
      shallow = none_in_front all s.before (s.token ∷ s.behind) s.all (subst (λ n. NoneBefore n (first_deep all)) len shallow);
    }

-- with no bracket too deep, all tokens but the end are read
pub unexpected_shallow : (ts us : List Token) (m : ℕ) (d : Token) → Closed ts m → m + 1 ≡ length ts → first_deep ts ≡ None → Refused sentence (take m ts) us refusal.Unexpected → IsUnexpected ts (m - length us) (get_or ts (m - length us) d).span.start
unexpected_shallow ts us m d c len none refused =
    let s = refused.stops refl in
    let r = stopped (take m ts) us s in
    let whole : kinds ts ≡ kinds (take m ts) ++ 0 ∷ [] = ap kinds c.all ∙ kinds-append (take m ts) (c.last ∷ []) ∙ ap (λ n. kinds (take m ts) ++ n ∷ []) c.kind_is in
    let a : length ts ≡ length (take m ts) + 1 = ap length c.all ∙ length-append (take m ts) (c.last ∷ []) in
    let number : m - length us ≡ length r.before = omega (arith, len, a, number_before (take m ts) us s.shorter r) in
    unexpected ts (take m ts) us r r.behind (m - length us) d (whole ∙ r.all) number (subst (NoneBefore (m - length us)) (sym none) tt)

-- brackets
not_end : (k : TokenKind) → opens k ≡ true → code_of k ≡ 0 → ⊥
not_end kind.End h e = true≢false (sym h)
not_end _ h e = absurd cc

-- the first token that is too deep isn't the end
pub deep_within : (ts : List Token) (d : ℕ) → EndsOnce (kinds ts) → first_deep ts ≡ Some d → d + 2 ≤ length ts
deep_within ts d h e =
    let r = deep_at ts 0 0 d e in
    let number : d ≡ length r.before = omega (arith, r.number) in
    let len : length ts ≡ length r.before + length (r.token ∷ r.behind) = ap length r.all ∙ length-append r.before (r.token ∷ r.behind) in
    elim (last_or_not r.behind) [
      | inr some ↦ omega (arith, number, len, some)
      | inl none ↦ absurd (
          let c = closed_of ts h in
          let one : length (r.token ∷ r.behind) ≡ 1 = ap (λ xs. length (r.token ∷ xs)) none in
          let place : length ts - 1 ≡ length r.before = omega (arith, len, one) in
          let there : kinds ts ≡ kinds r.before ++ code_of r.token.kind ∷ kinds r.behind = ap kinds r.all ∙ kinds-append r.before (r.token ∷ r.behind) in
          let full : length (kinds ts) ≡ length ts = length-map ts (λ t. code_of t.kind) in
          not_end r.token.kind r.deep.0 (sym (get_kind r.before (code_of r.token.kind) (kinds r.behind)) ∙ sym (ap (λ xs. get_or xs (length r.before) 0) there) ∙ sym (ap (λ n. get_or (kinds ts) n 0) place) ∙ sym (ap (λ n. get_or (kinds ts) (n - 1) 0) full) ∙ h.end)
          )
    ]
  where
    last_or_not : (xs : List Token) → (xs ≡ []) ⊎ (1 ≤ length xs)
    last_or_not [] = inl refl
    last_or_not (x ∷ xs) = inr (omega arith)

    get_kind : (xs : List Token) (c : ℕ) (ys : List ℕ) → get_or (kinds xs ++ c ∷ ys) (length xs) 0 ≡ c
    get_kind [] c ys = refl
    get_kind (x ∷ xs) c ys = get_kind xs c ys

-- the tokens through the first that is too deep are read
module _ (ts : List Token) (d : ℕ) (e : first_deep ts ≡ Some d) where
  through : (let r = deep_at ts 0 0 d e in take (d + 1) ts ≡ r.before ++ r.token ∷ [])
  through =
      let r = deep_at ts 0 0 d e in
      let n : d + 1 ≡ suc (length r.before) = omega (arith, r.number) in
      ap (λ k. take k ts) n ∙ ap (take (suc (length r.before))) r.all ∙ take_at r.before r.token r.behind

  pub too_deep : (x : Token) → BeginSource (take (d + 1) ts) → IsTooDeep ts (get_or ts d x).span.start
  too_deep x q =
      let r = deep_at ts 0 0 d e in
      let n : d ≡ length r.before = omega (arith, r.number) in
      let at : get_or ts d x ≡ r.token = ap (λ k. get_or ts k x) n ∙ ap (λ xs. get_or xs (length r.before) x) r.all ∙ get_at r.before r.token r.behind x in
      record {
        before = r.before;
        token = r.token;
        behind = r.behind;
        all = r.all;
        at = ap (λ t. t.span.start) at;
        begins = subst BeginSource through q;
        deep = r.deep;
        shallow = r.first;
      }

  -- the whole of them is a text, which cannot be, or begins one
  pub too_deep_whole : (x : Token) (text : List ℕ) (v : Source) → Gives language (Sym SOURCE) (source_of text) (take (d + 1) ts) [] v → IsTooDeep ts (get_or ts d x).span.start
  too_deep_whole x text v r = too_deep x (begins_whole text (take (d + 1) ts) v r)

  pub too_deep_end : (x : Token) → Refused sentence (take (d + 1) ts) [] refusal.Unexpected → IsTooDeep ts (get_or ts d x).span.start
  too_deep_end x refused =
      let r = stopped (take (d + 1) ts) [] (refused.stops refl) in
      let one : r.behind ≡ [] = (let h : 0 ∷ [] ≡ r.token ∷ r.behind = r.rest in cc) in
      let front : kinds (take (d + 1) ts) ≡ r.before = same_front (kinds (take (d + 1) ts)) r.before 0 r.token (r.all ∙ ap (λ xs. r.before ++ r.token ∷ xs) one) in
      too_deep x (subst (Starts Symbol rule (sentence ∷ [])) (sym front) r.begins)

  pub unexpected_deep : (us : List Token) (x : Token) → d + 1 ≤ length ts → 0 < length us → Refused sentence (take (d + 1) ts) us refusal.Unexpected → IsUnexpected ts (d + 1 - length us) (get_or ts (d + 1 - length us) x).span.start
  unexpected_deep us x le some refused = go us some refused
    where
      go : (us : List Token) → 0 < length us → Refused sentence (take (d + 1) ts) us refusal.Unexpected → IsUnexpected ts (d + 1 - length us) (get_or ts (d + 1 - length us) x).span.start
      go [] some refused = absurd (omega (arith, some))
      go (u ∷ us) some refused =
          let s = refused.stops refl in
          let r = stopped (take (d + 1) ts) (u ∷ us) s in
          let behind : r.behind ≡ kinds us ++ 0 ∷ [] = (let h : code_of u.kind ∷ (kinds us ++ 0 ∷ []) ≡ r.token ∷ r.behind = r.rest in cc) in
          let front : kinds (take (d + 1) ts) ≡ r.before ++ r.token ∷ kinds us = same_front (kinds (take (d + 1) ts)) (r.before ++ r.token ∷ kinds us) 0 0 (r.all ∙ ap (λ xs. r.before ++ r.token ∷ xs) behind ∙ sym (append_assoc r.before (r.token ∷ kinds us) (0 ∷ []))) in
          let whole : kinds ts ≡ r.before ++ r.token ∷ (kinds us ++ kinds (drop (d + 1) ts)) = ap kinds (sym (take_drop (d + 1) ts)) ∙ kinds-append (take (d + 1) ts) (drop (d + 1) ts) ∙ ap (λ xs. xs ++ kinds (drop (d + 1) ts)) front ∙ append_assoc r.before (r.token ∷ kinds us) (kinds (drop (d + 1) ts)) in
          let len : length (take (d + 1) ts) ≡ d + 1 = take_length (d + 1) ts le in
          let number : d + 1 - length (u ∷ us) ≡ length r.before = ap (λ n. n - length (u ∷ us)) (sym len) ∙ sym (number_before (take (d + 1) ts) (u ∷ us) s.shorter r) in
          let few : d + 1 - length (u ∷ us) ≤ d = omega arith in
          unexpected ts (take (d + 1) ts) (u ∷ us) r (kinds us ++ kinds (drop (d + 1) ts)) (d + 1 - length (u ∷ us)) x whole number (subst (NoneBefore (d + 1 - length (u ∷ us))) (sym e) few)

-- what the functions that read all tokens cite
pub one_at_least : (ts : List Token) → EndsOnce (kinds ts) → length ts - 1 + 1 ≡ length ts
one_at_least ts h =
    let some : 0 < length ts = subst (λ n. 0 < n) (length-map ts (λ t. code_of t.kind)) h.some in
    omega (arith, some)

tokens_few : {bs : List ℕ} {i : ℕ} {ts : List Token} → Lexes bs i ts → length ts ≤ length bs + 1
tokens_few lexes_end = omega arith
tokens_few (lexes_blank {b = b} {n = n} {bs = bs} e l) =
    let r = tokens_few l in
    let d : length (drop n (b ∷ bs)) ≡ length (b ∷ bs) - n = length-drop n (b ∷ bs) in
    omega (arith, r, d)
tokens_few (lexes_token {b = b} {n = n} {value = value} {bs = bs} {k = k} e l) =
    let r = tokens_few l in
    let d : length (drop n (b ∷ bs)) ≡ length (b ∷ bs) - n = length-drop n (b ∷ bs) in
    let w : IsWithin (Lexeme k n value) (length (b ∷ bs)) = subst (λ p. IsWithin p (length (b ∷ bs))) e (piece_within b bs) in
    omega (arith, r, d, w.0, w.1)

pub few_tokens : (bytes : List ℕ) (ts : List Token) → length bytes ≤ 65536 → Lexes bytes 0 ts → length ts < 2 ^ 32
few_tokens bytes ts h l = let r = tokens_few l in let n : length ts < 65538 = omega (arith, r, h) in omega (arith, n)

pub has_tokens : (bytes : List ℕ) (ts : List Token) (r : Result Source ParseFault) → length bytes ≤ 65536 → Lexes bytes 0 ts → (r ≡ Err fault.Memory) ⊎ IsOutcome bytes ts r → (r ≡ Err fault.Memory) ⊎ IsParse bytes r
has_tokens bytes ts r h l (inl m) = inl m
has_tokens bytes ts (Ok v) h l (inr p) = inr (record { short = h; tokens = ts; lexes = l; holds = p })
has_tokens bytes ts (Err (fault.Unexpected k o)) h l (inr p) = inr (record { short = h; tokens = ts; lexes = l; holds = p })
has_tokens bytes ts (Err (fault.TooDeep o)) h l (inr p) = inr (record { short = h; tokens = ts; lexes = l; holds = p })
has_tokens bytes ts (Err (fault.BadByte o)) h l (inr p) = absurd p
has_tokens bytes ts (Err (fault.TooLong o)) h l (inr p) = absurd p
has_tokens bytes ts (Err fault.Memory) h l (inr p) = absurd p

pub no_tokens : (us : List Token) → length us ≡ 0 → us ≡ []
no_tokens [] e = refl
no_tokens (u ∷ us) e = absurd (omega (arith, e))

pub some_left : (n m : ℕ) → n ≡ m → (n ≡ 0 → ⊥) → 0 < m
some_left n m e h = elim (cases_lt 0 m) [
  | inl some ↦ some
  | inr none ↦ absurd (h (omega (arith, e, none)))
]
