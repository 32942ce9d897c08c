-- Identifiers of documents of WML's family that aren't read (WAP-192, section 7.2, and Phone.com's
-- number for its WML 1.1): they become that of WML 1.3. This project's own.
use Rattle.std.specs.Prelude.{ℕ, ◌==◌, ◌&&◌, if◌then◌else◌, List, [], ◌∷◌, Option, Some, None}
use Rattle.wap_tokens.specs.declared.markup.codes.TheConstants.{WML_1_3}

-- after the version and a first byte of the identifier
abbrev pub known_after : ℕ → ℕ → List ℕ → Option (List ℕ)
known_after version first [] = if first == 2 then Some (version ∷ WML_1_3 ∷ []) else None
known_after version first (second ∷ rest) =
    if first == 2 then Some (version ∷ WML_1_3 ∷ second ∷ rest) else
    if first == 0xA2 && second == 8 then Some (version ∷ WML_1_3 ∷ rest) else None

-- the bytes with the identifier of WML 1.3, where they have the number of WML 1.0 or Phone.com's
abbrev pub known : List ℕ → Option (List ℕ)
known (version ∷ first ∷ rest) = known_after version first rest
known _ = None
