-- The texts that are sent: a request to the origin, and a reply to a client (RFC 9112, 3 and 4).
use Rattle.std.specs.Prelude.{ℕ, ◌==◌, ◌||◌, Bool, if◌then◌else◌, List, [], ◌∷◌, ◌++◌, length, codes, decimal, Option, None, Some}
use Rattle.gql_value.specs.Text.{quoted}

-- CR LF
abbrev pub line_end : List ℕ
line_end = 13 ∷ 10 ∷ []

-- the name of an operation as JSON, null where there is none
abbrev pub name_text : Option (List ℕ) → List ℕ
name_text None = codes "null"
name_text (Some name) = quoted name

-- the body of a request to a GraphQL origin (GraphQL over HTTP, 5.4)
abbrev pub request_body : List ℕ → Option (List ℕ) → List ℕ → List ℕ
request_body document operation variables =
    codes "{\"query\":" ++ (quoted document ++ (codes ",\"operationName\":" ++ (name_text operation ++ (codes ",\"variables\":" ++ (variables ++ codes "}")))))

-- the head of a request to the origin at this port, whose body has this length
abbrev pub request_head : ℕ → ℕ → List ℕ
request_head port size =
    codes "POST /graphql HTTP/1.1" ++ (line_end
    ++ (codes "Host: 127.0.0.1:" ++ (decimal port ++ (line_end
    ++ (codes "Content-Type: application/json" ++ (line_end
    ++ (codes "Accept: application/json" ++ (line_end
    ++ (codes "Content-Length: " ++ (decimal size ++ (line_end
    ++ (codes "Connection: close" ++ (line_end ++ line_end)))))))))))))

-- a whole request to the origin
abbrev pub request_text_of : ℕ → List ℕ → List ℕ
request_text_of port body = request_head port (length body) ++ body

-- the statuses of this project's replies
abbrev pub is_reply_status : ℕ → Bool
is_reply_status status = status == 200 || status == 202 || status == 400 || status == 404 || status == 405 || status == 413 || status == 502

-- the phrase of a status
abbrev pub phrase : ℕ → List ℕ
phrase status =
    if status == 200 then codes "OK" else (
    if status == 202 then codes "Accepted" else (
    if status == 400 then codes "Bad Request" else (
    if status == 404 then codes "Not Found" else (
    if status == 405 then codes "Method Not Allowed" else (
    if status == 413 then codes "Payload Too Large" else codes "Bad Gateway")))))

-- the head of a reply with this status, whose body has this length
abbrev pub reply_head : ℕ → ℕ → List ℕ
reply_head status size =
    codes "HTTP/1.1 " ++ (decimal status ++ (codes " " ++ (phrase status ++ (line_end
    ++ (codes "Content-Type: application/json" ++ (line_end
    ++ (codes "Content-Length: " ++ (decimal size ++ (line_end
    ++ (codes "Connection: close" ++ (line_end ++ line_end)))))))))))

-- a whole reply
abbrev pub reply_text_of : ℕ → List ℕ → List ℕ
reply_text_of status body = reply_head status (length body) ++ body
