-- What the ledger of a net counts.
use Rattle.std.proofs.Common.{arith, ◌≡◌, ◌<◌, ◌≤◌, ◌+◌, ◌^◌, ◌||◌, ◌∙◌, ℕ, Bool, true, false, List, [], ◌∷◌, ◌++◌, length, length-append, nat_lt, refl, sym, ap}
use Rattle.std.specs.List.{AllByRecursion, list_any}
use Rattle.std.proofs.lemmas.Bool.{ltb-false}
use Rattle.vd_channel_link.specs.declared.session.Session.{Session}
use Rattle.vd_channel_link.proofs.Sent.{carried_on}
use Rattle.vd_channel_link.specs.Ledgers.{GreetsAlone, Happened, NoneGiven, OneBack, OneGiven, UnsentGreetAlone, has_begun}
use Rattle.vd_channel_link.specs.declared.channel_net.ledger.Ledger.{Ledger}

-- whether a link came back over which a record behind the greeting was begun
abbrev any_begun : List Session → Bool
any_begun back = list_any has_begun back

record Counts (given : ℕ) (back : List Session) (ledger : Ledger) : Type 0 where
  pub all : ledger.out + length back ≡ given
  pub any : ledger.sent ≡ any_begun back

or_assoc : (a b c : Bool) → ((a || b) || c) ≡ (a || (b || c))
or_assoc true b c = refl
or_assoc false b c = refl

or_false : (a : Bool) → (a || false) ≡ a
or_false true = refl
or_false false = refl

any_more : (back : List Session) (session : Session) → any_begun (back ++ session ∷ []) ≡ (any_begun back || has_begun session)
any_more [] session = or_false (has_begun session)
any_more (s ∷ back) session = ap (λ (b : Bool). has_begun s || b) (any_more back session) ∙ sym (or_assoc (has_begun s) (any_begun back) (has_begun session))

counts : (given : ℕ) (back : List Session) (ledger : Ledger) → given < 2 ^ 64 → Happened given back ledger → Counts given back ledger
counts given back ledger few NoneGiven = record { all = refl; any = refl }
counts given back ledger few (OneGiven before back' old happened) =
    let so = counts before back old (omega (arith, few)) happened in
    let all = so.all in
    record { all = omega (arith, all, few); any = so.any }
counts given back ledger few (OneBack given' before old session happened fewer) =
    let so = counts given before old few happened in
    let all = so.all in
    record {
      all = omega (arith, all, fewer, length-append before (session ∷ []));
      any = ap (λ (b : Bool). b || has_begun session) so.any ∙ sym (any_more before session);
    }

neither : (a b : Bool) → (a || b) ≡ false → (a ≡ false) × (b ≡ false)
neither true b e = absurd cc
neither false b e = (refl, e)

alone : (back : List Session) → any_begun back ≡ false → AllByRecursion GreetsAlone back
alone [] none = tt
alone (session ∷ back) none =
    let both = neither (has_begun session) (any_begun back) none in
    ((λ start below so told. carried_on.first_alone start session below so both.0 told), alone back both.1)

pub greet_alone : UnsentGreetAlone
greet_alone given back ledger few happened unsent =
    let so = counts given back ledger few happened in
    let both = neither ledger.sent (nat_lt 0 ledger.out) unsent in
    let none : ledger.out ≤ 0 = ltb-false 0 ledger.out both.1 in
    let all = so.all in
    record { all_back = omega (arith, all, none); alone = alone back (sym so.any ∙ both.0) }
