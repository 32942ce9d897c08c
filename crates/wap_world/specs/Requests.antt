-- Requests (WAP-191, sections 9.5.1 and 9.3): what a go asks for, the line that it shows, and the
-- page that answers.
use Rattle.std.specs.Prelude.{ℕ, Bool, false, if◌then◌else◌, List, [], ◌∷◌, ◌++◌, map}
use Rattle.std.specs.Prelude.{Option, Some, None, codes}
use Rattle.std.specs.Option.{option_map, option_map_or}
use Rattle.std.specs.List.{join_with_byte}
use Rattle.wap_base.specs.Ascii.{space, ampersand, equals_sign}
use Rattle.wap_base.specs.declared.key.Key.{Key}
use Rattle.wap_url.specs.declared.url.Url.{Url}
use Rattle.wap_url.specs.Escapes.{escaped}
use Rattle.wap_url.specs.Printing.{text_without_fragment, name_for}
use Rattle.wap_url.specs.Relative.{relative_form}
use Rattle.wap_cardrules.specs.declared.task.Go.{Go}
use Rattle.wap_cardrules.specs.Values.{Pairs}
use Rattle.wap_world.specs.Shelves.{Shelf, Shelved, Entrance}
use Rattle.wap_world.specs.Access.{may_enter}
use Rattle.wap_world.specs.World.{World}
use Rattle.wap_world.specs.Steps.{AccessTest, Step}

-- what is asked for, as its line shows it
pub record Request : Type 0 where
  pub url : Url
  -- the body of a post; without one it is a get
  pub body : Option (List ℕ)
  pub referer : Option (List ℕ)
  pub fresh : Bool

-- ---- what a go asks for

-- a postfield, escaped
abbrev pub field_text : List ℕ × List ℕ → List ℕ
field_text post = escaped post.0 ++ equals_sign ∷ escaped post.1

-- the postfields as a form, one after the other
abbrev pub form_text : Pairs → List ℕ
form_text posts = join_with_byte ampersand (map field_text posts)

-- a form after a query, if there is one that isn't empty
abbrev pub query_before : Option (List ℕ) → List ℕ → List ℕ
query_before (Some (c ∷ query)) form = (c ∷ query) ++ ampersand ∷ form
query_before other form = form

-- with get the postfields, if there are some, go after the query
abbrev pub url_with : Url → Pairs → Url
url_with url [] = url
url_with url (post ∷ posts) =
    record url { query = Some (query_before url.query (form_text (post ∷ posts))) }

-- a get of a URL, without a referring one
abbrev pub plain_get : Url → Request
plain_get url = record { url = url; body = None; referer = None; fresh = false }

-- what a go asks for, from the URL of the deck in which it stands
abbrev pub request_of : Option Url → Go → Url → Request
request_of base go url =
    let target = if go.post then url else url_with url go.posts in
    record {
      url = target;
      body = if go.post then Some (form_text go.posts) else None;
      referer = if go.referer then option_map (relative_form target) base else None;
      fresh = go.fresh;
    }

-- ---- its line (this project's own)

-- the word of its method
abbrev pub method_text : Request → List ℕ
method_text request = option_map_or (λ body. codes "POST ") request.body (codes "GET ")

-- its method and its URL without a fragment, then its body and its referring URL if it has them,
-- and whether it is to be fetched anew
abbrev pub request_line : Request → List ℕ
request_line request =
    codes "> " ++ method_text request ++ text_without_fragment request.url
    ++ option_map_or (λ body. space ∷ body) request.body []
    ++ option_map_or (λ referer. codes " referer " ++ referer) request.referer []
    ++ (if request.fresh then codes " no-cache" else [])

-- ---- its answer

-- the request is shown, and the page is asked for
abbrev pub ask : List Key → Request → World → Step
ask keys request world = record {
  world = world;
  keys = keys;
  lines = request_line request ∷ [];
  asked = (name_for request.url, request.fresh) ∷ [];
  tests = [];
  is_open = false;
}

-- what stands on the shelf under its name
abbrev pub answer_to : Shelf → Request → Shelved
answer_to shelf request = shelf (name_for request.url)

-- it is decided whether a page may be entered from a URL, or by a user who opens it
abbrev pub test_of : Url → Option Url → Option Entrance → AccessTest
test_of page caller entrance =
    record { page = name_for page; caller = caller; allowed = may_enter page entrance caller }

-- the test is made; nothing else happens
abbrev pub test : List Key → AccessTest → World → Step
test keys one world = record {
  world = world;
  keys = keys;
  lines = [];
  asked = [];
  tests = one ∷ [];
  is_open = false;
}
