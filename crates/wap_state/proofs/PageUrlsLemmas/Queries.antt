-- A query that postfields go after may stand in a URL still.
use Rattle.std.proofs.Common.{◌≡◌, ℕ, ◌/◌, ◌%◌, Bool, true, false, List, [], ◌∷◌, refl}
use Rattle.std.proofs.Common.{Some, None, Option, IfSome, cond, arith, encode_utf8_all}
use Rattle.std.specs.List.{list_all, flat_map}
use Rattle.std.proofs.lemmas.Bool.{and_from, agree_below_at}
use Rattle.std.specs.Fmt.{digit_glyph}
use Rattle.percent_encoding.specs.Percent.{percent_encode_byte}
use Rattle.wap_url.specs.declared.url.Url.{Url}
use Rattle.wap_url.specs.Characters.{is_allowed, is_unreserved}
use Rattle.wap_url.specs.Escapes.{escape_of, escaped}
use Rattle.wap_url.proofs.CharacterLaws.{unreserved_high}
use Rattle.wap_url.proofs.UntilLaws.{implies}
use Rattle.wap_cardrules.specs.Values.{Pairs}
use Rattle.wap_world.specs.Requests.{field_text, form_text, query_before, url_with}
use Rattle.wap_state.specs.page_urls.PageUrls.{IsPageUrl}
use Rattle.wap_state.proofs.PageUrlsLemmas.Joining.{all-append}

abbrev Allowed : List ℕ → Type 0
Allowed text = list_all is_allowed text ≡ true

-- ---- escapes

unreserved_allowed : (c : ℕ) → is_unreserved c ≡ true → is_allowed c ≡ true
unreserved_allowed = implies is_unreserved is_allowed refl unreserved_high

digit_allowed : (d : ℕ) → is_allowed (digit_glyph true (d % 16)) ≡ true
digit_allowed d =
    agree_below_at (λ n. is_allowed (digit_glyph true n)) (λ n. true) 16 (d % 16) refl (omega arith)

escape_allowed : (byte : ℕ) → Allowed (percent_encode_byte byte)
unfolding percent_encode_byte
escape_allowed byte =
    and_from (is_allowed (digit_glyph true (byte / 16 % 16)))
    (list_all is_allowed (digit_glyph true (byte % 16) ∷ [])) (digit_allowed (byte / 16))
    (and_from (is_allowed (digit_glyph true (byte % 16))) true (digit_allowed byte) refl)

one_allowed : (byte : ℕ) (b : Bool) → is_unreserved byte ≡ b
    → Allowed (cond b (byte ∷ []) (percent_encode_byte byte))
one_allowed byte true is = and_from (is_allowed byte) true (unreserved_allowed byte is) refl
one_allowed byte false is = escape_allowed byte

all_allowed : (bytes : List ℕ) → Allowed (flat_map escape_of bytes)
all_allowed [] = refl
all_allowed (byte ∷ bytes) =
    all-append is_allowed (escape_of byte) (flat_map escape_of bytes)
    (one_allowed byte (is_unreserved byte) refl) (all_allowed bytes)

escaped_allowed : (text : List ℕ) → Allowed (escaped text)
escaped_allowed text = all_allowed (encode_utf8_all text)

-- ---- forms

field_allowed : (post : List ℕ × List ℕ) → Allowed (field_text post)
field_allowed post =
    all-append is_allowed (escaped post.0) (61 ∷ escaped post.1) (escaped_allowed post.0)
    (and_from (is_allowed 61) (list_all is_allowed (escaped post.1)) refl (escaped_allowed post.1))

form_allowed : (posts : Pairs) → Allowed (form_text posts)
form_allowed [] = refl
form_allowed (post ∷ []) = field_allowed post
form_allowed (post ∷ next ∷ posts) =
    all-append is_allowed (field_text post) (38 ∷ form_text (next ∷ posts)) (field_allowed post)
    (and_from (is_allowed 38) (list_all is_allowed (form_text (next ∷ posts))) refl
    (form_allowed (next ∷ posts)))

query_allowed : (query : Option (List ℕ)) (form : List ℕ)
    → IfSome query (λ text. Allowed text) → Allowed form → Allowed (query_before query form)
query_allowed None form fine more = more
query_allowed (Some []) form fine more = more
query_allowed (Some (c ∷ query)) form fine more =
    all-append is_allowed (c ∷ query) (38 ∷ form) fine
    (and_from (is_allowed 38) (list_all is_allowed form) refl more)

-- ---- the URL of a get

with_query : (url : Url) (query : List ℕ) → IsPageUrl url → Allowed query
    → IsPageUrl (record url { query = Some query })
with_query url query page fine = record {
  normal = record {
    split = record {
      spells = refl;
      scheme = page.normal.split.scheme;
      host = page.normal.split.host;
      port = page.normal.split.port;
      port_has_host = page.normal.split.port_has_host;
      path = page.normal.split.path;
      query = fine;
      no_scheme = page.normal.split.no_scheme;
      rooted = page.normal.split.rooted;
      no_host = page.normal.split.no_host;
    };
    fits = record {
      scheme = page.normal.fits.scheme;
      host = page.normal.fits.host;
      port = page.normal.fits.port;
    };
    port = page.normal.port;
    scheme = page.normal.scheme;
    host = page.normal.host;
  };
  http = page.http;
  host = page.host;
}

-- with postfields it is the URL of a page still
pub page_with : (url : Url) (posts : Pairs) → IsPageUrl url → IsPageUrl (url_with url posts)
page_with url [] page = page
page_with url (post ∷ posts) page =
    with_query url (query_before url.query (form_text (post ∷ posts))) page
    (query_allowed url.query (form_text (post ∷ posts)) page.normal.split.query
    (form_allowed (post ∷ posts)))

-- with another fragment too
pub page_fragment : (url : Url) (fragment : Option (List ℕ)) → IsPageUrl url
    → IsPageUrl (record url { fragment = fragment })
page_fragment url fragment page = record {
  normal = record {
    split = record {
      spells = refl;
      scheme = page.normal.split.scheme;
      host = page.normal.split.host;
      port = page.normal.split.port;
      port_has_host = page.normal.split.port_has_host;
      path = page.normal.split.path;
      query = page.normal.split.query;
      no_scheme = page.normal.split.no_scheme;
      rooted = page.normal.split.rooted;
      no_host = page.normal.split.no_host;
    };
    fits = record {
      scheme = page.normal.fits.scheme;
      host = page.normal.fits.host;
      port = page.normal.fits.port;
    };
    port = page.normal.port;
    scheme = page.normal.scheme;
    host = page.normal.host;
  };
  http = page.http;
  host = page.host;
}
