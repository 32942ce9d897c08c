-- A name is the same list of bytes and of characters, and a text with other bytes is none.
use Rattle.std.proofs.Common.{◌≡◌, ℕ, ◌+◌, ◌/◌, ◌≤◌, Bool, true, false, cond, ltb}
use Rattle.std.proofs.Common.{List, [], ◌∷◌, refl, ap, inl, inr, arith}
use Rattle.std.specs.Prelude.{encode_utf8_all, ◌&&◌}
use Rattle.std.specs.Char.{encode_utf8}
use Rattle.std.specs.List.{list_all}
use Rattle.std.proofs.lemmas.Bool.{cases_lt, le-ltb}
use Rattle.std.proofs.lemmas.Bool.Decides.{nat_tests}
use Rattle.std.proofs.lemmas.Str.{encode_ascii}
use Rattle.wap_base.specs.Names.{begins_name, continues_name, is_name}

-- nothing past ASCII is in a name
pub past-continues : (c : ℕ) → 128 ≤ c → continues_name c ≡ false
past-continues c past = grind (arith, nat_tests)

pub past-begins : (c : ℕ) → 128 ≤ c → begins_name c ≡ false
past-begins c past = grind (arith, nat_tests)

-- a byte past ASCII comes first
pub record BeginsPast (bytes : List ℕ) : Type 0 where
  pub lead : ℕ
  pub rest : List ℕ
  pub is : bytes ≡ lead ∷ rest
  pub past : 128 ≤ lead

past-if : (b : Bool) (x y : List ℕ) → BeginsPast x → BeginsPast y → BeginsPast (cond b x y)
past-if true x y p q = p
past-if false x y p q = q

-- a character past ASCII begins with a byte past ASCII
pub past-encode : (c : ℕ) → 128 ≤ c → BeginsPast (encode_utf8 c)
unfolding encode_utf8
past-encode c past = rw (le-ltb c 128 past) (past-if (ltb c 2048) _ _
    (record { lead = 192 + c / 64; rest = _; is = refl; past = omega arith })
    (past-if (ltb c 65536) _ _ (record {
      lead = 224 + c / 4096;
      rest = _;
      is = refl;
      past = omega arith;
    }) (record { lead = 240 + c / 262144; rest = _; is = refl; past = omega arith })))

continues-encode : (cs : List ℕ)
    → list_all continues_name (encode_utf8_all cs) ≡ list_all continues_name cs
continues-encode [] = refl
continues-encode (c ∷ cs) = elim (cases_lt c 128) [
  | inl ascii ↦
      rw (encode_ascii c ascii) (ap (λ (b : Bool). continues_name c && b) (continues-encode cs))
  | inr past ↦
      let e = past-encode c past in
      rw (e.is, past-continues e.lead e.past, past-continues c past) refl
]

pub name-encode : (cs : List ℕ) → is_name (encode_utf8_all cs) ≡ is_name cs
name-encode [] = refl
name-encode (c ∷ cs) = elim (cases_lt c 128) [
  | inl ascii ↦
      rw (encode_ascii c ascii) (ap (λ (b : Bool). begins_name c && b) (continues-encode cs))
  | inr past ↦
      let e = past-encode c past in
      rw (e.is, past-begins e.lead e.past, past-begins c past) refl
]
