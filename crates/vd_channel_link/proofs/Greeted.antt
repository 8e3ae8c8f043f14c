-- A hello that came piece by piece.
use Rattle.std.proofs.Common.{◌≡◌, ◌∙◌, ◌++◌, ◌∷◌, [], ℕ, Bool, IsTrue, List, Ok, length, ap, sym, refl, subst, arith, append_assoc}
use Rattle.vd_base.specs.declared.ids.HostId.{HostId}
use Rattle.vd_outside.specs.Link.{LinkView}
use Rattle.vd_channel_crypto.specs.Hellos.{hello_bytes}
use Rattle.vd_channel_crypto.specs.declared.hellos.Hello.{Hello}
use Rattle.vd_channel_link.specs.Filling.{Fills}
use Rattle.vd_channel_link.specs.Meeting.{TakesHello}

hello_came : (hello : Hello) (version heard ends a b c d e : List ℕ) → a ≡ version ++ b → b ≡ heard ++ c → c ≡ ends ++ d → d ≡ hello.nonce ++ e
    → version ≡ 0x47 ∷ 2 ∷ [] → heard ≡ hello.id → ends ≡ hello.from.0 ∷ hello.to.0 ∷ [] → a ≡ hello_bytes hello ++ e
hello_came hello version heard ends a b c d e va hb ec nd v i n =
    let last : c ≡ (hello.from.0 ∷ hello.to.0 ∷ [] ++ hello.nonce) ++ e =
    ec ∙ ap (λ (xs : List ℕ). xs ++ d) n ∙ ap (λ (xs : List ℕ). hello.from.0 ∷ hello.to.0 ∷ [] ++ xs) nd in
    let middle : b ≡ (hello.id ++ (hello.from.0 ∷ hello.to.0 ∷ [] ++ hello.nonce)) ++ e =
    hb ∙ ap (λ (xs : List ℕ). xs ++ c) i ∙ ap (λ (xs : List ℕ). hello.id ++ xs) last
    ∙ sym (append_assoc hello.id (hello.from.0 ∷ hello.to.0 ∷ [] ++ hello.nonce) e) in
    va ∙ ap (λ (xs : List ℕ). xs ++ b) v ∙ ap (λ (xs : List ℕ). 0x47 ∷ 2 ∷ xs) middle

told : (now before : Bool) → now ≡ before → IsTrue now → IsTrue before
told now before same holds = subst (λ (b : Bool). IsTrue b) same holds

-- its four pieces one after the other
pub taken : (id : List ℕ) (from to : HostId) (v0 v1 v2 v3 v4 : LinkView) (version heard ends nonce : List ℕ)
    → Fills version v0 v1 (Ok tt) → Fills heard v1 v2 (Ok tt) → Fills ends v2 v3 (Ok tt) → Fills nonce v3 v4 (Ok tt)
    → version ≡ 0x47 ∷ 2 ∷ [] → heard ≡ id → ends ≡ from.0 ∷ to.0 ∷ [] → length nonce ≡ 32
    → TakesHello id from to v0 v4 (Ok (record { id = heard; from = from; to = to; nonce = nonce }))
taken id from to v0 v1 v2 v3 v4 version heard ends nonce a b c d v i n long =
    let hello : Hello = record { id = heard; from = from; to = to; nonce = nonce } in
    let third = told v4.told v3.told d.still_told in
    let second = λ (t : IsTrue v4.told). told v3.told v2.told c.still_told (third t) in
    let first = λ (t : IsTrue v4.told). told v2.told v1.told b.still_told (second t) in
    record {
      later = omega (arith, a.later, b.later, c.later, d.later);
      failed = λ e. absurd cc;
      ended = λ e. absurd cc;
      still_told = d.still_told ∙ c.still_told ∙ b.still_told ∙ a.still_told;
      sent = λ t. d.sent t ∙ c.sent (third t) ∙ b.sent (second t) ∙ a.sent (first t);
      id_is = i;
      from_is = refl;
      to_is = refl;
      nonce = long;
      came = λ t. hello_came hello version heard ends v0.coming v1.coming v2.coming v3.coming v4.coming
          (a.whole (first t)) (b.whole (second t)) (c.whole (third t)) (d.whole t) v refl n;
    }
