-- Lines of a generated source: each is a statement that meets the rules where the names before it are declared.
use Rattle.std.proofs.Common.{◌≡◌, ℕ, ◌+◌, Bool, true, false, List, [], ◌∷◌, ◌++◌, map, Some, None, Result, Ok, codes, refl, ap, ◌∙◌, arith, bytes_eq, if◌then◌else◌}
use Rattle.vd_source_lexer.specs.Grammar.{Sym, Star}
use Rattle.vd_base.specs.declared.operations.Kind.{Kind}
use Rattle.vd_base.specs.declared.operations.Kind.TheVariants.{Word, Bool as Truth}
use Rattle.vd_base.specs.Names.{Named, at_name}
use Rattle.vd_core.specs.declared.source.Infix.TheVariants as op
use Rattle.vd_core.specs.declared.source.Expr.TheVariants as expr
use Rattle.vd_core.specs.declared.source.WrittenForm.TheVariants as form
use Rattle.vd_core.specs.declared.source.Statement.{Statement}
use Rattle.vd_core.specs.declared.source.Statement.TheVariants as stmt
use Rattle.vd_source_lexer.specs.declared.token.Token.{Token}
use Rattle.vd_source_lexer.specs.declared.token.TokenKind.TheVariants as kind
use Rattle.vd_parser.specs.Language.{STMT}
use Rattle.vd_parser.specs.Syntax.{word_at, statement_of, statements_of}
use Rattle.vd_resolve.specs.declared.symbol.Symbol.{Symbol as Value}
use Rattle.vd_resolve.specs.declared.symbol.Symbol.TheVariants.{Constant}
use Rattle.vd_resolve.specs.Faults.{Fault}
use Rattle.vd_resolve.specs.Rules.{and_then, checking, in_sequence}
use Rattle.vd_resolve.specs.Sizes.{also, Variables, is_variable, is_true, statement_size, statements_after}
use Rattle.vd_cmd_choose.proofs.Trees.{named, two, IsKind, Reads, name, number, input, star, plus, minus, less, declassify, form_either, expr_of_atom, binding, output, statements_end, statements_more}
use Rattle.vd_cmd_choose.proofs.Rules.{scope, types_input, types_names, types_answer, let_checks, output_checks, count, also_count, Plain, Sizes, sizes_input, sizes_names, sizes_answer, sizes_output}

-- ---- names in sight

pub at_behind : {A : Type 0} (xs ys : Named A) (x : List ℕ) → at_name xs x ≡ None → at_name (xs ++ ys) x ≡ at_name ys x
at_behind [] ys x h = refl
at_behind (e ∷ xs) ys x h =
    (elim (bytes_eq e.0 x) as (λ b. (if b then Some e.1 else at_name xs x) ≡ None → (if b then Some e.1 else at_name (xs ++ ys) x) ≡ at_name ys x) [
      | true ↦ λ g. absurd (some_none e.1 g)
      | false ↦ λ g. at_behind xs ys x g
    ]) h
  where
    some_none : {B : Type 0} (b : B) → Some b ≡ None → ⊥
    some_none b g = cc

pub at_front : {A : Type 0} (xs ys : Named A) (x : List ℕ) (a : A) → at_name xs x ≡ Some a → at_name (xs ++ ys) x ≡ Some a
at_front [] ys x a h = absurd (none_some a h)
  where
    none_some : {B : Type 0} (b : B) → None ≡ Some b → ⊥
    none_some b g = cc
at_front (e ∷ xs) ys x a h =
    (elim (bytes_eq e.0 x) as (λ b. (if b then Some e.1 else at_name xs x) ≡ Some a → (if b then Some e.1 else at_name (xs ++ ys) x) ≡ Some a) [
      | true ↦ λ g. g
      | false ↦ λ g. at_front xs ys x a g
    ]) h

plain_more : (vars : Variables) (N : List ℕ) → Plain vars → Plain (vars ++ (N, false) ∷ [])
plain_more vars N plain x = go vars (plain x)
  where
    here : (b : Bool) → is_true (if b then Some false else None) ≡ false
    here true = refl
    here false = refl

    go : (vs : Variables) → is_variable vs x ≡ false → is_variable (vs ++ (N, false) ∷ []) x ≡ false
    go [] h = here (bytes_eq N x)
    go (v ∷ vs) h =
        (elim (bytes_eq v.0 x) as (λ b. is_true (if b then Some v.1 else at_name vs x) ≡ false → is_true (if b then Some v.1 else at_name (vs ++ (N, false) ∷ []) x) ≡ false) [
          | true ↦ λ g. g
          | false ↦ λ g. go vs g
        ]) h

-- ---- one line

-- From the tokens ts a `let` of the name N is read, which gives it a value of kind K and takes so many statements, where what it
-- needs of the values in sight is there.
pub record Line (text : List ℕ) (ts rest : List Token) (N : List ℕ) (K : Kind) (size : ℕ) (Needs : Named Value → Type 0) : Type 0 where
  pub statement : Statement
  pub reads : Reads (Sym STMT) statement_of text ts rest statement
  pub checks : (env : Named Value) → at_name env N ≡ None → Needs env → checking statement scope env ≡ Ok (env ++ (N, Constant K) ∷ [])
  pub sizes : Sizes statement N size

abbrev pub Nothing : Named Value → Type 0
Nothing env = Unit {0}

abbrev pub AreWords : List ℕ → List ℕ → Named Value → Type 0
AreWords L M env = (at_name env L ≡ Some (Constant Word)) × (at_name env M ≡ Some (Constant Word))

abbrev pub IsWord : List ℕ → Named Value → Type 0
IsWord L env = at_name env L ≡ Some (Constant Word)

pub input_line : {text N H : List ℕ} {rest : List Token} {k n q i o h p s : Token} → IsKind k kind.Let → IsKind n kind.Name → IsKind q kind.Equal → IsKind i kind.Input → IsKind o kind.OpenParen → IsKind h kind.Name →
    IsKind p kind.CloseParen → IsKind s kind.Semicolon → word_at text n.span ≡ N → word_at text h.span ≡ H → at_name scope.hosts H ≡ Some tt →
    Line text (k ∷ n ∷ q ∷ i ∷ o ∷ h ∷ p ∷ s ∷ rest) rest N Word 1 Nothing
input_line {N = N} {H = H} {k = k} {n = n} {h = h} kk kn kq ki ko kh kp ks wn wh known = record {
  statement = stmt.Let k.span (named N n.span) None (expr.Input (named H h.span));
  reads = binding kk kn kq wn (expr_of_atom (input ki ko kh kp wh)) ks;
  checks = λ env fresh needs. let_checks k.span n.span N (expr.Input (named H h.span)) env Word fresh (types_input H h.span env known);
  sizes = sizes_input k.span n.span h.span N H;
}

pub minus_line : {text N L M : List ℕ} {rest : List Token} {k n q l o m s : Token} → IsKind k kind.Let → IsKind n kind.Name → IsKind q kind.Equal → IsKind l kind.Name → IsKind o kind.Minus → IsKind m kind.Name →
    IsKind s kind.Semicolon → word_at text n.span ≡ N → word_at text l.span ≡ L → word_at text m.span ≡ M →
    Line text (k ∷ n ∷ q ∷ l ∷ o ∷ m ∷ s ∷ rest) rest N Word 1 (AreWords L M)
minus_line {N = N} {L = L} {M = M} {k = k} {n = n} {l = l} {o = o} {m = m} kk kn kq kl ko km ks wn wl wm = record {
  statement = stmt.Let k.span (named N n.span) None (two op.Sub o.span (expr.Value (named L l.span)) (expr.Value (named M m.span)));
  reads = binding kk kn kq wn (minus (name kl wl) ko (name km wm)) ks;
  checks = λ env fresh needs. let_checks k.span n.span N (two op.Sub o.span (expr.Value (named L l.span)) (expr.Value (named M m.span))) env Word fresh (types_names op.Sub o.span L M l.span m.span env needs.0 needs.1 refl);
  sizes = sizes_names op.Sub refl k.span o.span n.span l.span m.span N L M;
}

pub star_line : {text N L M : List ℕ} {rest : List Token} {k n q l o m s : Token} → IsKind k kind.Let → IsKind n kind.Name → IsKind q kind.Equal → IsKind l kind.Name → IsKind o kind.Star → IsKind m kind.Name →
    IsKind s kind.Semicolon → word_at text n.span ≡ N → word_at text l.span ≡ L → word_at text m.span ≡ M →
    Line text (k ∷ n ∷ q ∷ l ∷ o ∷ m ∷ s ∷ rest) rest N Word 1 (AreWords L M)
star_line {N = N} {L = L} {M = M} {k = k} {n = n} {l = l} {o = o} {m = m} kk kn kq kl ko km ks wn wl wm = record {
  statement = stmt.Let k.span (named N n.span) None (two op.Mul o.span (expr.Value (named L l.span)) (expr.Value (named M m.span)));
  reads = binding kk kn kq wn (star (name kl wl) ko (name km wm)) ks;
  checks = λ env fresh needs. let_checks k.span n.span N (two op.Mul o.span (expr.Value (named L l.span)) (expr.Value (named M m.span))) env Word fresh (types_names op.Mul o.span L M l.span m.span env needs.0 needs.1 refl);
  sizes = sizes_names op.Mul refl k.span o.span n.span l.span m.span N L M;
}

pub plus_line : {text N L M : List ℕ} {rest : List Token} {k n q l o m s : Token} → IsKind k kind.Let → IsKind n kind.Name → IsKind q kind.Equal → IsKind l kind.Name → IsKind o kind.Plus → IsKind m kind.Name →
    IsKind s kind.Semicolon → word_at text n.span ≡ N → word_at text l.span ≡ L → word_at text m.span ≡ M →
    Line text (k ∷ n ∷ q ∷ l ∷ o ∷ m ∷ s ∷ rest) rest N Word 1 (AreWords L M)
plus_line {N = N} {L = L} {M = M} {k = k} {n = n} {l = l} {o = o} {m = m} kk kn kq kl ko km ks wn wl wm = record {
  statement = stmt.Let k.span (named N n.span) None (two op.Add o.span (expr.Value (named L l.span)) (expr.Value (named M m.span)));
  reads = binding kk kn kq wn (plus (name kl wl) ko (name km wm)) ks;
  checks = λ env fresh needs. let_checks k.span n.span N (two op.Add o.span (expr.Value (named L l.span)) (expr.Value (named M m.span))) env Word fresh (types_names op.Add o.span L M l.span m.span env needs.0 needs.1 refl);
  sizes = sizes_names op.Add refl k.span o.span n.span l.span m.span N L M;
}

pub answer_line : {text N L : List ℕ} {rest : List Token} {k n q d o l c v x b f g h y z s : Token} → IsKind k kind.Let → IsKind n kind.Name → IsKind q kind.Equal → IsKind d kind.Declassify → IsKind o kind.OpenParen →
    IsKind l kind.Name → IsKind c kind.Less → IsKind v kind.Number → IsKind x kind.Comma → IsKind b kind.OpenBrace → IsKind f kind.Name → IsKind g kind.Pipe → IsKind h kind.Name → IsKind y kind.CloseBrace →
    IsKind z kind.CloseParen → IsKind s kind.Semicolon → word_at text n.span ≡ N → word_at text l.span ≡ L → word_at text f.span ≡ codes "A" → word_at text h.span ≡ codes "B" →
    Line text (k ∷ n ∷ q ∷ d ∷ o ∷ l ∷ c ∷ v ∷ x ∷ b ∷ f ∷ g ∷ h ∷ y ∷ z ∷ s ∷ rest) rest N Truth 3 (IsWord L)
answer_line {N = N} {L = L} {k = k} {n = n} {l = l} {c = c} {v = v} {f = f} {h = h} kk kn kq kd ko kl kc kv kx kb kf kg kh ky kz ks wn wl wf wh = record {
  statement = stmt.Let k.span (named N n.span) None (expr.Declassify (two op.Less c.span (expr.Value (named L l.span)) (expr.Number v.value)) (form.Either (form.Name (named (codes "A") f.span) ∷ form.Name (named (codes "B") h.span) ∷ [])));
  reads = binding kk kn kq wn (expr_of_atom (declassify kd ko (less (name kl wl) kc (number kv)) kx kb (form_either kf kg kh wf wh) ky kz)) ks;
  checks = λ env fresh needs. let_checks k.span n.span N (expr.Declassify (two op.Less c.span (expr.Value (named L l.span)) (expr.Number v.value)) (form.Either (form.Name (named (codes "A") f.span) ∷ form.Name (named (codes "B") h.span) ∷ []))) env Truth fresh
      (types_answer c.span f.span h.span L l.span v.value env needs);
  sizes = sizes_answer k.span c.span n.span l.span N L v.value (form.Either (form.Name (named (codes "A") f.span) ∷ form.Name (named (codes "B") h.span) ∷ []));
}

-- ---- statements, one after another

-- From the tokens ts the statements are read, and a closing bracket and the end are left; they meet the rules where P holds of the
-- values in sight, and take so many statements.
pub record Body (text : List ℕ) (ts : List Token) (P : Named Value → Type 0) (size : ℕ) : Type 0 where
  pub close : Token
  pub end : Token
  pub is_close : IsKind close kind.CloseBrace
  pub is_end : IsKind end kind.End
  pub statements : List Statement
  pub reads : Reads (Star (Sym STMT)) statements_of text ts (close ∷ end ∷ []) statements
  pub checks : (env : Named Value) → P env → (last : Named Value) × (in_sequence (map checking statements) scope env ≡ Ok last)
  pub sizes : (vars : Variables) (before : ℕ) → Plain vars → (statements_after (count before) (map statement_size statements) [] vars).0 ≡ count (before + size)

pub no_more : {text : List ℕ} {close end : Token} (P : Named Value → Type 0) → IsKind close kind.CloseBrace → IsKind end kind.End → Body text (close ∷ end ∷ []) P 0
no_more {close = close} {end = end} P is_close is_end = record {
  close = close;
  end = end;
  is_close = is_close;
  is_end = is_end;
  statements = [];
  reads = statements_end;
  checks = λ env p. (env, refl);
  sizes = λ vars before plain. let same : before ≡ before + 0 = omega arith in ap count same;
}

first_checks : (s : Statement) (ss : List Statement) (env next : Named Value) → checking s scope env ≡ Ok next → in_sequence (map checking (s ∷ ss)) scope env ≡ in_sequence (map checking ss) scope next
first_checks s ss env next h = ap (λ (r : Result (Named Value) Fault). and_then r (λ after. in_sequence (map checking ss) scope after)) h

first_size : (s : Statement) (ss : List Statement) (before n : ℕ) (vars next : Variables) → statement_size s [] vars ≡ (count n, next) →
    (statements_after (count before) (map statement_size (s ∷ ss)) [] vars).0 ≡ (statements_after (count (before + n)) (map statement_size ss) [] next).0
first_size s ss before n vars next h =
    ap (λ p. (statements_after (also (count before) p.0) (map statement_size ss) [] p.1).0) h
    ∙ ap (λ z. (statements_after z (map statement_size ss) [] next).0) (also_count before n)

pub more : {text : List ℕ} {ts us : List Token} {N : List ℕ} {K : Kind} {n size : ℕ} {Needs : Named Value → Type 0} (P Q : Named Value → Type 0) → Line text ts us N K n Needs → Body text us Q size →
    ((env : Named Value) → P env → (at_name env N ≡ None) × Needs env × Q (env ++ (N, Constant K) ∷ [])) → Body text ts P (n + size)
more {N = N} {K = K} {n = n} {size = size} P Q line body step = record {
  close = body.close;
  end = body.end;
  is_close = body.is_close;
  is_end = body.is_end;
  statements = line.statement ∷ body.statements;
  reads = statements_more line.reads body.reads;
  checks = λ env p. let s = step env p in
      let b = body.checks (env ++ (N, Constant K) ∷ []) s.2 in
      (b.0, first_checks line.statement body.statements env (env ++ (N, Constant K) ∷ []) (line.checks env s.0 s.1) ∙ b.1);
  sizes = λ vars before plain.
      let same : before + n + size ≡ before + (n + size) = omega arith in
      first_size line.statement body.statements before n vars (vars ++ (N, false) ∷ []) (line.sizes vars plain)
      ∙ body.sizes (vars ++ (N, false) ∷ []) (before + n) (plain_more vars N plain)
      ∙ ap count same;
}

pub output_more : {text H N : List ℕ} {us : List Token} {k v t h s : Token} {K : Kind} {size : ℕ} → IsKind k kind.Output → IsKind v kind.Name → IsKind t kind.To → IsKind h kind.Name → IsKind s kind.Semicolon →
    word_at text v.span ≡ N → word_at text h.span ≡ H → at_name scope.hosts H ≡ Some tt → Body text us (λ env. at_name env N ≡ Some (Constant K)) size →
    Body text (k ∷ v ∷ t ∷ h ∷ s ∷ us) (λ env. at_name env N ≡ Some (Constant K)) (1 + size)
output_more {text = text} {H = H} {N = N} {us = us} {k = k} {v = v} {t = t} {h = h} {s = s} {K = K} {size = size} kk kv kt kh ks wv wh known body =
    let it : Statement = stmt.Output k.span (expr.Value (named N v.span)) (named H h.span) in
    let made : Reads (Sym STMT) statement_of text (k ∷ v ∷ t ∷ h ∷ s ∷ us) us it = output kk (expr_of_atom (name kv wv)) kt kh wh ks in
    record {
      close = body.close;
      end = body.end;
      is_close = body.is_close;
      is_end = body.is_end;
      statements = it ∷ body.statements;
      reads = statements_more made body.reads;
      checks = λ env p. let b = body.checks env p in (b.0, first_checks it body.statements env env (output_checks k.span v.span h.span H N env K known p) ∙ b.1);
      sizes = λ vars before plain.
          let same : before + 1 + size ≡ before + (1 + size) = omega arith in
          first_size it body.statements before 1 vars vars (sizes_output k.span v.span h.span N H vars plain) ∙ body.sizes vars (before + 1) plain ∙ ap count same;
    }

pub weaken : {text : List ℕ} {ts : List Token} {size : ℕ} (P Q : Named Value → Type 0) → ((env : Named Value) → P env → Q env) → Body text ts Q size → Body text ts P size
weaken P Q h body = record {
  close = body.close;
  end = body.end;
  is_close = body.is_close;
  is_end = body.is_end;
  statements = body.statements;
  reads = body.reads;
  checks = λ env p. body.checks env (h env p);
  sizes = body.sizes;
}
