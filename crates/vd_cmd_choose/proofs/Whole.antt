-- A generated text is that of a source, which meets every rule.
use Rattle.std.proofs.Common.{◌≡◌, ℕ, suc, ◌+◌, ◌-◌, ◌*◌, ◌≤◌, List, [], ◌∷◌, length, Ok, codes, refl, sym, ap, ◌∙◌, subst, arith}
use Rattle.vd_source_lexer.specs.Grammar.{Sym}
use Rattle.vd_source_lexer.specs.Trees.{Leaf, m-seq, m-tok}
use Rattle.vd_base.specs.declared.ids.Span.{Span}
use Rattle.vd_base.specs.Limits.{most_source_bytes}
use Rattle.vd_core.specs.declared.source.Source.{Source}
use Rattle.vd_source_lexer.specs.Kinds.{code_of}
use Rattle.vd_source_lexer.specs.declared.token.Token.{Token}
use Rattle.vd_source_lexer.specs.declared.token.TokenKind.TheVariants as kind
use Rattle.vd_parser.specs.Language.{SOURCE, HOST}
use Rattle.vd_parser.specs.Syntax.{word_at, host_of, source_of}
use Rattle.vd_parser.specs.Outcomes.{IsSource, IsParse}
use Rattle.vd_resolve.specs.declared.size.Size.{Size}
use Rattle.vd_resolve.specs.Sizes.{source_size}
use Rattle.vd_resolve.specs.Limits.{resolution}
use Rattle.vd_gen.specs.Sizes.{most_coordinates}
use Rattle.vd_gen.specs.Source.{generated}
use Rattle.vd_cmd_choose.proofs.Words.{Part, text_of, tokens_from, lexes_parts, Holds, holds_map, holds_at, shallow_parts}
use Rattle.vd_cmd_choose.proofs.Script.{head_parts, coordinates_parts, last_parts, script, script_text, script_lexable, script_shallow}
use Rattle.vd_cmd_choose.proofs.Trees.{named, IsKind, Reads, form_named, form_both, host, source}
use Rattle.vd_cmd_choose.proofs.Rules.{the_label, count, source_resolves}
use Rattle.vd_cmd_choose.proofs.Lines.{Body}
use Rattle.vd_cmd_choose.proofs.Coordinates.{coordinates_size, coordinates_few, coordinates_body, last_body, Known, none_known}
use Rattle.vd_cmd_choose.proofs.Sizes.{short_source}

-- the bytes of the token are this text
abbrev Says : List ℕ → Token → List ℕ → Type 0
Says text t N = word_at text t.span ≡ N

-- a host with its label, wherever its names stand
record IsHost (text : List ℕ) (ts rest : List Token) (H p : List ℕ) : Type 0 where
  name_at : Span
  own_at : Span
  first_at : Span
  second_at : Span
  reads : Reads (Sym HOST) host_of text ts rest (record { name = named H name_at; label = the_label p own_at first_at second_at })

host_line : {text H p : List ℕ} {rest : List Token} {k n o c s a m b x e : Token} → IsKind k kind.Host → IsKind n kind.Name → IsKind o kind.OpenBrace → IsKind c kind.Name → IsKind s kind.Semicolon → IsKind a kind.Name →
    IsKind m kind.Ampersand → IsKind b kind.Name → IsKind x kind.CloseBrace → IsKind e kind.Semicolon → Says text n H → Says text c p → Says text a (codes "A") → Says text b (codes "B") →
    IsHost text (k ∷ n ∷ o ∷ c ∷ s ∷ a ∷ m ∷ b ∷ x ∷ e ∷ rest) rest H p
host_line {n = n} {c = c} {a = a} {b = b} kk kn ko kc ks ka km kb kx ke wn wc wa wb = record {
  name_at = n.span;
  own_at = c.span;
  first_at = a.span;
  second_at = b.span;
  reads = host kk kn wn ko (form_named kc wc) ks (form_both ka km kb wa wb) kx ke;
}

-- the tokens of a source, the source, that it meets every rule, and how often its statements are executed
record Meets (text : List ℕ) (n : ℕ) (ts : List Token) : Type 0 where
  source : Source
  is_source : IsSource text ts source
  meets : resolution source ≡ Ok tt
  executed : (source_size source).weights ≡ n

-- principals, hosts and the block
head_line : {text : List ℕ} {p a c b s m o : Token} {hs gs ss : List Token} (n : ℕ) → IsKind p kind.Principals → IsKind a kind.Name → IsKind c kind.Comma → IsKind b kind.Name → IsKind s kind.Semicolon →
    Says text a (codes "A") → Says text b (codes "B") → IsHost text hs gs (codes "alice") (codes "A") → IsHost text gs (m ∷ o ∷ ss) (codes "bob") (codes "B") → IsKind m kind.Main → IsKind o kind.OpenBrace →
    Body text ss (Known 0) n → n ≤ 512 → Meets text n (p ∷ a ∷ c ∷ b ∷ s ∷ hs)
head_line {text = text} {p = p} {a = a} {c = c} {b = b} {s = s} {hs = hs} n kp ka kc kb ks wa wb first second km ko body few =
    let it : Source = record {
      principals = named (codes "A") a.span ∷ named (codes "B") b.span ∷ [];
      hosts =
          record { name = named (codes "alice") first.name_at; label = the_label (codes "A") first.own_at first.first_at first.second_at }
          ∷ record { name = named (codes "bob") second.name_at; label = the_label (codes "B") second.own_at second.first_at second.second_at } ∷ [];
      functions = [];
      main = body.statements;
    } in
    let r : Reads (Sym SOURCE) source_of text (p ∷ a ∷ c ∷ b ∷ s ∷ hs) (body.end ∷ []) it = source kp ka kc kb ks wa wb first.reads second.reads km ko body.reads body.is_close in
    let ends = body.checks [] none_known in
    let total : 0 + n ≡ n = omega arith in
    let size = body.sizes [] 0 (λ x. refl) ∙ ap count total in
    record {
      source = it;
      is_source = record { tree = r.tree; end = Leaf body.end; makes = m-seq r.makes (m-tok (ap code_of body.is_end)); stands = sym r.stands };
      meets = source_resolves a.span b.span first.name_at second.name_at first.own_at first.first_at first.second_at second.own_at second.first_at second.second_at body.statements ends.0 n ends.1
          size few;
      executed = ap (λ (z : Size). z.weights) size;
    }

source_meets : (text : List ℕ) (lines : List Part) (n : ℕ) → n ≤ 512 → Holds text lines (λ ts. Body text ts (Known 0) n) → Holds text (head_parts lines) (Meets text n)
source_meets text lines n few body =
    λ p hp a ha c hc b hb s hs.
    λ k1 hk1 n1 hn1 o1 ho1 c1 hc1 s1 hs1 a1 ha1 m1 hm1 b1 hb1 x1 hx1 e1 he1.
    λ k2 hk2 n2 hn2 o2 ho2 c2 hc2 s2 hs2 a2 ha2 m2 hm2 b2 hb2 x2 hx2 e2 he2.
    λ m hm o ho.
    holds_map text lines (λ us. Body text us (Known 0) n) (λ us. Meets text n (p ∷ a ∷ c ∷ b ∷ s ∷ k1 ∷ n1 ∷ o1 ∷ c1 ∷ s1 ∷ a1 ∷ m1 ∷ b1 ∷ x1 ∷ e1 ∷ k2 ∷ n2 ∷ o2 ∷ c2 ∷ s2 ∷ a2 ∷ m2 ∷ b2 ∷ x2 ∷ e2 ∷ m ∷ o ∷ us))
    (λ us after. head_line n hp.0 ha.0 hc.0 hb.0 hs.0 ha.1 hb.1 (host_line hk1.0 hn1.0 ho1.0 hc1.0 hs1.0 ha1.0 hm1.0 hb1.0 hx1.0 he1.0 hn1.1 hc1.1 ha1.1 hb1.1) (host_line hk2.0 hn2.0 ho2.0 hc2.0 hs2.0 ha2.0 hm2.0 hb2.0 hx2.0 he2.0 hn2.1 hc2.1 ha2.1 hb2.1) hm.0 ho.0 after few) body

script_meets : (text : List ℕ) (n last : ℕ) → suc last ≡ n → n ≤ 100 → Holds text (script n last) (Meets text (coordinates_size 0 n 5))
script_meets text n last e most =
    let few = coordinates_few 0 n 5 in
    source_meets text (coordinates_parts 0 n (last_parts last)) (coordinates_size 0 n 5) (omega (arith, few, most))
    (coordinates_body text n 0 n (last_parts last) 5 (omega arith) most (subst (λ k. Holds text (last_parts last) (λ ts. Body text ts (Known k) 5)) e (last_body text last)))

pub generated_is_source : (n : ℕ) → 1 ≤ n → n ≤ most_coordinates → (source : Source) × IsParse (generated n) (Ok source) × (resolution source ≡ Ok tt) × ((source_size source).weights ≤ 5 * n + 5)
generated_is_source n some most =
    let last = n - 1 in
    let next : suc last ≡ n = omega (arith, some) in
    let same : text_of (script n last) ≡ generated n = script_text n last refl in
    let meets = holds_at (text_of (script n last)) (script n last) 0 (Meets (text_of (script n last)) (coordinates_size 0 n 5)) refl (script_meets (text_of (script n last)) n last next most) in
    let parsed : IsParse (text_of (script n last)) (Ok meets.source) = record {
      short = subst (λ text. length text ≤ most_source_bytes) (sym same) (short_source n some most);
      tokens = tokens_from 0 (script n last);
      lexes = lexes_parts (script n last) 0 (script_lexable n last most (omega (arith, some, most)));
      holds = record { source = meets.is_source; shallow = shallow_parts (script n last) (script_shallow n last) };
    } in
    let often = meets.executed in
    let few = coordinates_few 0 n 5 in
    (meets.source, subst (λ text. IsParse text (Ok meets.source)) same parsed, meets.meets, omega (arith, often, few))
