-- A byte that tells the kind of what follows it.
use Rattle.std.proofs.Common.{◌≡◌, ℕ, ◌-◌, List, length, Option, Some, None, refl, sym, ap, subst}
use Rattle.std.proofs.Common.{◌∷◌, ◌∙◌}
use Rattle.wap_base.specs.formats.Sequences.{IsByte, After}
use Rattle.wap_base.specs.formats.Refusal.{Refusal, LacksByte, RefusesInTurn}
use Rattle.wap_base.specs.formats.ByteReading.{Reader, byte_at, in_turn}
use Rattle.wap_base.proofs.formats.Parts.{headed, behind}
use Rattle.wap_base.proofs.formats.Readers.{Reads, reads_in_turn, reads_as, reads_here}
use Rattle.wap_base.proofs.formats.Steps.{reads_byte}

-- what follows a byte, where that is of a kind
abbrev pub IsBy : {K A : Type 0} → (K → List ℕ → A → Type 0) → Option K → List ℕ → A → Type 0
IsBy Is None bytes x = ⊥
IsBy Is (Some kind) bytes x = Is kind bytes x

module _ {K A : Type 0} (Is : K → List ℕ → A → Type 0) (kind_of : ℕ → Option K) (code : K → ℕ)
    (tells : (byte : ℕ) (kind : K) → kind_of byte ≡ Some kind → byte ≡ code kind)
    (known : (kind : K) → kind_of (code kind) ≡ Some kind) where
  -- a byte that is of a kind is the byte of that kind
  kind_found : (bytes rest : List ℕ) (byte : ℕ) (some : Option K) (x : A) → kind_of byte ≡ some
      → bytes ≡ byte ∷ rest → IsBy Is some rest x
      → (kind : K) × After (code kind) (λ l. Is kind l x) bytes
  kind_found bytes rest byte None x is spelled follows = absurd follows
  kind_found bytes rest byte (Some kind) x is spelled follows =
      (kind, (rest, spelled ∙ ap (λ (b : ℕ). b ∷ rest) (tells byte kind is), follows))

  -- the byte of a kind, and what follows it
  pub reads_kind : {E : Type 0} (short : ℕ → E) {by : ℕ → Option K → Reader E A}
      {Refuses : ℕ → Option K → Refusal E}
      → ((at : ℕ) (some : Option K) → Reads (by at some) (IsBy Is some) (Refuses at some))
      → Reads (λ end bytes.
      in_turn (byte_at short) (λ byte. by (end - length bytes) (kind_of byte)) end bytes)
      (λ bytes x. (kind : K) × After (code kind) (λ l. Is kind l x) bytes)
      (λ end left found.
      RefusesInTurn (LacksByte short) IsByte
      (λ byte. Refuses (end - length left) (kind_of byte)) end left found)
  reads_kind short reads =
      reads_as (reads_here (λ at.
      reads_in_turn (reads_byte short) (λ byte. reads at (kind_of byte))))
      (λ bytes x is.
      let one = headed is.1 in
      kind_found bytes one.0 is.0 (kind_of is.0) x refl one.1 one.2)
      (λ bytes x is. (
        code is.0,
        behind (
          is.1.0,
          is.1.1,
          subst (λ (some : Option K). IsBy Is some is.1.0 x) (sym (known is.0)) is.1.2,
        ),
      ))
