-- What a site of the walk stands for.
use Rattle.check_model.specs.Sites as sites
use Rattle.site_walk.specs.declared.site.Site.{Site}
use Rattle.site_walk.specs.declared.site.Site.TheVariants as site

-- the site, as the rules have it, that a site of the walk stands for: each reference gives what it points to
abbrev pub seen : Site → sites.Site
seen (site.Condition name) = sites.Site.Condition name.now
seen (site.Selected parent name has_set) = sites.Site.Selected parent name.now has_set
seen (site.Spreading parent fragment) = sites.Site.Spreading parent fragment
seen (site.Directed location directives) = sites.Site.Directed location directives.now
seen (site.Given defined arguments) = sites.Site.Given defined.now arguments.now
seen (site.Default wanted literal) = sites.Site.Default wanted.now literal.now
